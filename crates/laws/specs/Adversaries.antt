-- Libraries that do nothing of use, and where the promises stop each. Document 01, "How tight each promise is".
use Rattle.std.specs.Prelude.{ℕ, ◌+◌, ◌-◌, ◌<◌, ◌≤◌, ◌≡◌, refl, List, [], ◌∷◌, length, get_or, Option, Some}
use Rattle.std.proofs.Common.{arith, sym, ◌∙◌, ltb-false}
use Rattle.std.proofs.Math.Path.{ap}
use Rattle.std.proofs.lemmas.Bool.{eqb-false, not-true, not-false}
use Rattle.octets.specs.Class.{class_of, is_letter, seps_of}
use Rattle.octets.specs.Segment.{lead}
use Rattle.answers.specs.declared.Reply.TheVariants.{Done, Mode, Length, Absent, Cursor as TooMany}
use Rattle.answers.specs.declared.Verdict.{Verdict}
use Rattle.answers.specs.declared.View.{View}
use Rattle.answers.specs.Reply.{refused_view, refused_verdict}
use Rattle.answers.specs.Outcome.{give, told, guard, in_mode, short}
use Rattle.answers.specs.Written.{over, answered, left, Wrote}
use Rattle.prefixes.specs.Prefix.{turned, begins, slashed, capital, drive, drive_exact, past, name_of, names_of, is_verbatim, verbatim_of, unc_of, device_of, prefix_of, parsed_figures}
use Rattle.parts.specs.declared.Element.{Element}
use Rattle.parts.specs.Body.{sort_by, rest, from}
use Rattle.parts.specs.Elements.{nth_of, nth_back_of}
use Rattle.parts.specs.Laws.{back_nth}
use Rattle.components.specs.List.{sep_at, dot_at, dir_of, start_of, head_list, body_list, whole_of, list_of, has_root, is_absolute}
use Rattle.cursors.specs.Rest.{left_end, empty_at, dotted, behind_dot, rest_of}
use Rattle.views.specs.Views.{climbs, rest_back, parent_of, ancestor_of, last_name, has_dot, last_dot, of_name, whole_seen, stem_seen, extension_seen}
use Rattle.order.specs.Values.{values_in, values_of}
use Rattle.order.specs.Order.{cmp_nat, lexical, cmp_value, compare_of}
use Rattle.matches.specs.Match.{starts_with, ends_with, starts_of, ends_of}
use Rattle.matches.specs.Strip.{strip_of}
use Rattle.seams.specs.Seam.{wants, glued, seamed}
use Rattle.joins.specs.Join.{mended, mere_disk, parted, joined}
use Rattle.setters.specs.Set.{base_of, holds, pointed, extended}
use Rattle.absolute.specs.Absolute.{two_slashes, start_for, one_by_one, ends, closed, finished, absolute_of}
use Rattle.paths.specs.declared.Prefixed.{Prefixed}
use Rattle.paths.specs.declared.steps.Cursor.{Cursor}
use Rattle.paths.specs.declared.steps.Stepped.{Stepped}
use Rattle.paths.specs.Prefix.{refused_prefix, prefix_asked, prefix_call}
use Rattle.paths.specs.Steps.{refused_step, took_at, step_asked, next_in, next_back_in, next_call, next_back_call, rest_for, rest_call}
use Rattle.paths.specs.Tests.{test_call}
use Rattle.paths.specs.Views.{view_call, parent_call}
use Rattle.paths.specs.Pairs.{pair_call, compare_call}
use Rattle.paths.specs.Writes.{join_call}
use Rattle.paths.specs.Absolute.{absolute_call}
use Rattle.laws.specs.Replies.{NoneHolds}
use Rattle.laws.specs.Walks.{stands}
use Rattle.laws.specs.Rooms.{apart, told_passes, result_left}
use Rattle.laws.specs.Given.{Call, prefix, next, next_back, as_path, parent, ancestor, file_name, file_stem, extension, has_root_test, is_absolute_test, compare, starts_with_test, ends_with_test, strip_prefix, join, set_file_name, set_extension, absolute, reply_to, tests_of, step_reply, otherwise_done}

abbrev elements : Cursor → List ℕ → List Element
elements c s = list_of (seps_of c.mode) s

abbrev cursor : ℕ → ℕ → ℕ → Cursor
cursor m f b = record { mode = m; front = f; back = b }

-- ---- a library that only refuses

-- where no test of the table holds, the answer is Done
pub refuses_not : (c : Call) → NoneHolds (tests_of c) → reply_to c ≡ Done
refuses_not c n = (otherwise_done c).1 n

-- and each of the 19 calls has such an input: `C:\a.b`, the name `x`, a buffer of 8 bytes
abbrev file : List ℕ
file = 67 ∷ 58 ∷ 92 ∷ 97 ∷ 46 ∷ 98 ∷ []

abbrev other : List ℕ
other = 120 ∷ []

pub each_done :
    (reply_to (prefix 1 file) ≡ Done)
    × (reply_to (next (cursor 1 0 0) file) ≡ Done)
    × (reply_to (next_back (cursor 1 0 0) file) ≡ Done)
    × (reply_to (as_path (cursor 1 0 0) file) ≡ Done)
    × (reply_to (parent 1 file) ≡ Done)
    × (reply_to (ancestor 1 file 1) ≡ Done)
    × (reply_to (file_name 1 file) ≡ Done)
    × (reply_to (file_stem 1 file) ≡ Done)
    × (reply_to (extension 1 file) ≡ Done)
    × (reply_to (has_root_test 1 file) ≡ Done)
    × (reply_to (is_absolute_test 1 file) ≡ Done)
    × (reply_to (compare 1 file other) ≡ Done)
    × (reply_to (starts_with_test 1 file other) ≡ Done)
    × (reply_to (ends_with_test 1 file other) ≡ Done)
    × (reply_to (strip_prefix 1 file file) ≡ Done)
    × (reply_to (join 1 file other 8) ≡ Done)
    × (reply_to (set_file_name 1 file other 8) ≡ Done)
    × (reply_to (set_extension 1 file other 8) ≡ Done)
    × (reply_to (absolute 0 file (47 ∷ []) 8) ≡ Done)
unfolding reply_to told guard answered seps_of class_of is_letter lead turned begins slashed capital drive drive_exact past name_of names_of is_verbatim verbatim_of unc_of device_of prefix_of sort_by rest from nth_of nth_back_of sep_at dot_at dir_of start_of head_list body_list whole_of list_of has_root is_absolute rest_of left_end empty_at dotted behind_dot climbs rest_back parent_of ancestor_of last_name has_dot last_dot of_name whole_seen stem_seen extension_seen values_in values_of cmp_nat lexical cmp_value compare_of starts_with ends_with starts_of ends_of strip_of wants glued seamed mended mere_disk parted joined base_of holds pointed extended two_slashes start_for one_by_one ends closed finished absolute_of prefix_asked prefix_call step_asked next_in next_back_in next_call next_back_call rest_for rest_call test_call view_call pair_call absolute_call
each_done = (refl, refl, refl, refl, refl, refl, refl, refl, refl, refl, refl, refl, refl, refl, refl, refl, refl, refl, refl)

-- ---- one fixed answer for all: of each kind of answer, two questions that no one answer meets

-- the prefixes of `C:` and `D:`
pub fixed_prefix : (a : Prefixed) → a ≡ told refused_prefix (prefix_call 1 (67 ∷ 58 ∷ [])) → a ≡ told refused_prefix (prefix_call 1 (68 ∷ 58 ∷ [])) → ⊥
unfolding told guard seps_of class_of is_letter turned begins capital drive prefix_of prefix_asked prefix_call
fixed_prefix a x y = let z : ◌≡◌ {A = ℕ} 67 68 = ap (λ (v : Prefixed). (parsed_figures v.prefix).letter) (sym x ∙ y) in omega arith

-- the parents of `/a` and `a`
pub fixed_view : (a : View) → a ≡ told refused_view (parent_call 0 (47 ∷ 97 ∷ [])) → a ≡ told refused_view (parent_call 0 (97 ∷ [])) → ⊥
unfolding told guard seps_of lead sort_by rest from nth_of nth_back_of sep_at dot_at dir_of start_of head_list body_list whole_of list_of rest_of left_end empty_at dotted behind_dot rest_back parent_of view_call
fixed_view a x y = let z : ◌≡◌ {A = ℕ} 1 0 = ap (λ (v : View). v.len) (sym x ∙ y) in omega arith

-- the order of `a` and `b`, and of `b` and `a`
pub fixed_verdict : (a : Verdict) → a ≡ told refused_verdict (compare_call 0 (97 ∷ []) (98 ∷ [])) → a ≡ told refused_verdict (compare_call 0 (98 ∷ []) (97 ∷ [])) → ⊥
unfolding told guard seps_of lead sort_by rest from sep_at dot_at dir_of start_of head_list body_list whole_of list_of values_in values_of cmp_nat lexical cmp_value compare_of pair_call
fixed_verdict a x y = let z : ◌≡◌ {A = ℕ} 0 2 = ap (λ (v : Verdict). v.value) (sym x ∙ y) in omega arith

-- the empty path joined with `a`, and with `b`
pub fixed_bytes : (a : View) (b : ℕ) (after : List ℕ) → Wrote (join_call 0 [] (97 ∷ [])) a (b ∷ []) after → Wrote (join_call 0 [] (98 ∷ [])) a (b ∷ []) after → ⊥
unfolding left over guard seps_of sep_at dot_at dir_of start_of has_root is_absolute wants mended mere_disk parted joined pair_call
fixed_bytes a b after x y = let z : ◌≡◌ {A = ℕ} 97 98 = ap (λ (l : List ℕ). get_or l 0 0) (sym x.leaves ∙ y.leaves) in omega arith

-- ---- a join that writes nothing: in a buffer of one byte that is not `a`
pub writes_nothing : (a : View) (b : ℕ) → Wrote (join_call 0 [] (97 ∷ [])) a (b ∷ []) (b ∷ []) → b ≡ 97
unfolding left over guard seps_of sep_at dot_at dir_of start_of has_root is_absolute wants mended mere_disk parted joined pair_call
writes_nothing a b w = ap (λ (l : List ℕ). get_or l 0 0) w.leaves

-- ---- a walk that does all on its first step and repeats it later

step_took : (n : ℕ) (c : Cursor) (s : List ℕ) (i : Option Element) (d : Cursor) (a : Stepped) → a ≡ told (refused_step c) (in_mode c.mode (short s (step_asked n c i d))) → a.reply ≡ Done
    → (c.front + c.back < n) × (a ≡ took_at i d)
unfolding told step_asked
step_took n c s i d a e y =
    let m = told_passes step_reply (refused_step c) (λ r. refl) _ Mode _ a e (λ f. apart y f (λ z. omega arith)) in
    let l = told_passes step_reply (refused_step c) (λ r. refl) _ Length _ a m.1 (λ f. apart y f (λ z. omega arith)) in
    let t = told_passes step_reply (refused_step c) (λ r. refl) _ TooMany _ a l.1 (λ f. apart y f (λ z. omega arith)) in
    let u = told_passes step_reply (refused_step c) (λ r. refl) _ Absent _ a t.1 (λ f. apart y f (λ z. omega arith)) in
    let x : c.front + c.back ≤ n = ltb-false n (c.front + c.back) t.0 in
    let o : c.front + c.back ≡ n → ⊥ = eqb-false (c.front + c.back) n (not-true _ (not-false _ u.0)) in
    (omega (arith, o), u.1)

-- a step that is Done shows one element, its own by the cursor, and moves the cursor by one; that the steps of a walk show every element
-- once is `walk_calls` of Walks.antt
module _ (c : Cursor) (s : List ℕ) (a : Stepped) where
  pub own_element : a ≡ told (refused_step c) (next_call c s) → a.reply ≡ Done
      → (x : Element) × (nth_of (elements c s) c.front ≡ Some x) × (a ≡ took_at (Some x) (cursor c.mode (c.front + 1) c.back))
  unfolding next_call next_in
  own_element e d =
      let t = step_took _ c s _ _ a e d in
      let h = stands (elements c s) c.front (omega (arith, t.0)) in
      (h.element, h.is, t.1 ∙ ap (λ (i : Option Element). took_at i (cursor c.mode (c.front + 1) c.back)) h.is)

  pub own_element_back : a ≡ told (refused_step c) (next_back_call c s) → a.reply ≡ Done
      → (x : Element) × (nth_back_of (elements c s) c.back ≡ Some x) × (a ≡ took_at (Some x) (cursor c.mode c.front (c.back + 1)))
  unfolding next_back_call next_back_in
  own_element_back e d =
      let t = step_took _ c s _ _ a e d in
      let h = stands (elements c s) (length (elements c s) - 1 - c.back) (omega (arith, t.0)) in
      let g : nth_back_of (elements c s) c.back ≡ Some h.element = back_nth (elements c s) c.back (omega (arith, t.0)) ∙ h.is in
      (h.element, g, t.1 ∙ ap (λ (i : Option Element). took_at i (cursor c.mode c.front (c.back + 1))) g)

-- ---- a made-up length: it is that of the defined result
pub true_length : (w : List ℕ) (a : View) (before after : List ℕ) → Wrote (give w) a before after → a.reply ≡ Done → a.len ≡ length w
true_length w a before after h d = (result_left w a before after h d).counted
