-- When each of the 19 public calls gives each reply. Document 01, "Replies", "Given exactly when": a call's tests in the order 1, 2, 8, 4, 5, 6, 3, 7; its
-- reply is that of the first test that holds, and Done where none does.
use Rattle.std.specs.Prelude.{ℕ, ◌+◌, ◌≡◌, refl, List, [], ◌∷◌, Bool, true, false, cond, not, ◌↔◌, length, ltb, leb, eqb, Option, Some, None}
use Rattle.std.proofs.Common.{arith, sym, ◌∙◌}
use borrow.Author.Tests.{eqb-true, leb-true, leb-false, lt-ltb, le-ltb}
use Rattle.octets.specs.Class.{is_sep, seps_of}
use Rattle.octets.specs.Laws.{split}
use Rattle.octets.specs.declared.Seps.{Seps}
use Rattle.octets.specs.declared.Seps.TheVariants.{Unix}
use Rattle.answers.specs.declared.Reply.{Reply}
use Rattle.answers.specs.declared.Reply.TheVariants.{Done, Mode, Length, Absent, Name, Empty, Base, Room, Cursor as TooMany}
use Rattle.answers.specs.declared.View.{View}
use Rattle.answers.specs.declared.Verdict.{Verdict}
use Rattle.answers.specs.Reply.{refused_view, refused_verdict, seen}
use Rattle.answers.specs.Outcome.{Outcome, refuse, give, told, guard, in_mode, short}
use Rattle.answers.specs.Written.{answered}
use Rattle.prefixes.specs.Prefix.{prefix_in, has_prefix}
use Rattle.parts.specs.declared.Element.{Element}
use Rattle.parts.specs.Elements.{nth_back_of, is_here}
use Rattle.components.specs.List.{sep_at, list_of, is_absolute}
use Rattle.views.specs.Views.{leaves, climbs, rest_back, parent_of, ancestor_of, last_name, dot_of, on_item, of_name, whole_seen, stem_seen, extension_seen}
use Rattle.matches.specs.Match.{starts_of}
use Rattle.matches.specs.Strip.{strip_of}
use Rattle.joins.specs.Join.{joined}
use Rattle.setters.specs.Set.{base_of, holds, on_view, extended}
use Rattle.absolute.specs.Absolute.{start_for, finished, absolute_of}
use Rattle.paths.specs.declared.Prefixed.{Prefixed}
use Rattle.paths.specs.declared.steps.Cursor.{Cursor}
use Rattle.paths.specs.declared.steps.Stepped.{Stepped}
use Rattle.paths.specs.Prefix.{refused_prefix, prefix_asked, prefix_call}
use Rattle.paths.specs.Steps.{refused_step, took_at, step_asked, next_in, next_back_in, next_call, next_back_call, rest_for, rest_call}
use Rattle.paths.specs.Tests.{test_call, root_call, absolute_test}
use Rattle.paths.specs.Views.{view_call, parent_call, ancestor_call, file_name_call, file_stem_call, extension_call}
use Rattle.paths.specs.Pairs.{pair_call, compare_call, starts_call, ends_call, strip_call}
use Rattle.paths.specs.Writes.{join_call, set_name_call, set_extension_call}
use Rattle.paths.specs.Absolute.{absolute_call}
use Rattle.laws.specs.Replies.{Test, test, first_of, NoneHolds, Why, done_when, exactly_when, rising, done_none, mode, long}

-- a call, by what it is given; one that writes is given the room of its buffer, last
pub data Call : Type 0 where
  prefix : ℕ → List ℕ → Call
  next : Cursor → List ℕ → Call
  next_back : Cursor → List ℕ → Call
  as_path : Cursor → List ℕ → Call
  parent : ℕ → List ℕ → Call
  ancestor : ℕ → List ℕ → ℕ → Call
  file_name : ℕ → List ℕ → Call
  file_stem : ℕ → List ℕ → Call
  extension : ℕ → List ℕ → Call
  has_root_test : ℕ → List ℕ → Call
  is_absolute_test : ℕ → List ℕ → Call
  compare : ℕ → List ℕ → List ℕ → Call
  starts_with_test : ℕ → List ℕ → List ℕ → Call
  ends_with_test : ℕ → List ℕ → List ℕ → Call
  strip_prefix : ℕ → List ℕ → List ℕ → Call
  join : ℕ → List ℕ → List ℕ → ℕ → Call
  set_file_name : ℕ → List ℕ → List ℕ → ℕ → Call
  set_extension : ℕ → List ℕ → List ℕ → ℕ → Call
  absolute : ℕ → List ℕ → List ℕ → ℕ → Call

-- the reply that a call promises: of `told`, and of the `says` of `Wrote`
unfoldable pub reply_to : Call → Reply
reply_to (prefix m s) = (told refused_prefix (prefix_call m s)).reply
reply_to (next c s) = (told (refused_step c) (next_call c s)).reply
reply_to (next_back c s) = (told (refused_step c) (next_back_call c s)).reply
reply_to (as_path c s) = (told refused_view (rest_call c s)).reply
reply_to (parent m s) = (told refused_view (parent_call m s)).reply
reply_to (ancestor m s n) = (told refused_view (ancestor_call n m s)).reply
reply_to (file_name m s) = (told refused_view (file_name_call m s)).reply
reply_to (file_stem m s) = (told refused_view (file_stem_call m s)).reply
reply_to (extension m s) = (told refused_view (extension_call m s)).reply
reply_to (has_root_test m s) = (told refused_verdict (root_call m s)).reply
reply_to (is_absolute_test m s) = (told refused_verdict (absolute_test m s)).reply
reply_to (compare m p q) = (told refused_verdict (compare_call m p q)).reply
reply_to (starts_with_test m p q) = (told refused_verdict (starts_call m p q)).reply
reply_to (ends_with_test m p q) = (told refused_verdict (ends_call m p q)).reply
reply_to (strip_prefix m p q) = (told refused_view (strip_call m p q)).reply
reply_to (join m p q n) = (answered n (join_call m p q)).reply
reply_to (set_file_name m p q n) = (answered n (set_name_call m p q)).reply
reply_to (set_extension m p e n) = (answered n (set_extension_call m p e)).reply
reply_to (absolute m s cwd n) = (answered n (absolute_call m s cwd)).reply

-- 3, where a part is not there
abbrev absent : Bool → Test
absent is = test (not is) Absent

-- 8 "more components taken than the path has"; 3 "a step finds nothing left"
abbrev count : Cursor → List ℕ → ℕ
count c s = length (list_of (seps_of c.mode) s)

abbrev beyond : Cursor → List ℕ → Test
beyond c s = test (ltb (count c s) (c.front + c.back)) TooMany

abbrev spent : Cursor → List ℕ → Test
spent c s = test (eqb (c.front + c.back) (count c s)) Absent

-- 3, of the file name's element: there is one, with a dot that is not its first byte
abbrev pub pointed_at : List ℕ → Option Element → Bool
pointed_at s None = false
pointed_at s (Some p) = not (eqb (dot_of s p) 0)

-- 6 "of a relative path, current directory not starting with `/`"
abbrev baseless : List ℕ → List ℕ → Test
baseless s cwd = test (cond (is_absolute Unix s) false (not (sep_at Unix cwd 0))) Base

-- 7 "the finished result is longer than the output buffer"
abbrev room : ℕ → List ℕ → Test
room n w = test (ltb n (length w)) Room

-- the finished result, if there is one
abbrev pub made : Outcome (List ℕ) → List ℕ
made (refuse r) = []
made (give w) = w

-- the tests of a call
unfoldable pub tests_of : Call → List Test
tests_of (prefix m s) = mode m ∷ long s ∷ absent (has_prefix (prefix_in (seps_of m) s)) ∷ []
tests_of (next c s) = mode c.mode ∷ long s ∷ beyond c s ∷ spent c s ∷ []
tests_of (next_back c s) = mode c.mode ∷ long s ∷ beyond c s ∷ spent c s ∷ []
tests_of (as_path c s) = mode c.mode ∷ long s ∷ beyond c s ∷ []
tests_of (parent m s) = mode m ∷ long s ∷ absent (leaves (nth_back_of (list_of (seps_of m) s) 0)) ∷ []
tests_of (ancestor m s n) = mode m ∷ long s ∷ absent (climbs (list_of (seps_of m) s) n) ∷ []
tests_of (file_name m s) = mode m ∷ long s ∷ absent (is_here (last_name (seps_of m) s)) ∷ []
tests_of (file_stem m s) = mode m ∷ long s ∷ absent (is_here (last_name (seps_of m) s)) ∷ []
tests_of (extension m s) = mode m ∷ long s ∷ absent (pointed_at s (last_name (seps_of m) s)) ∷ []
tests_of (has_root_test m s) = mode m ∷ long s ∷ []
tests_of (is_absolute_test m s) = mode m ∷ long s ∷ []
tests_of (compare m p q) = mode m ∷ long p ∷ long q ∷ []
tests_of (starts_with_test m p q) = mode m ∷ long p ∷ long q ∷ []
tests_of (ends_with_test m p q) = mode m ∷ long p ∷ long q ∷ []
tests_of (strip_prefix m p q) = mode m ∷ long p ∷ long q ∷ absent (starts_of (seps_of m) p q) ∷ []
tests_of (join m p q n) = mode m ∷ long p ∷ long q ∷ room n (joined (seps_of m) p q) ∷ []
tests_of (set_file_name m p q n) = mode m ∷ long p ∷ long q ∷ room n (joined (seps_of m) (base_of (seps_of m) p) q) ∷ []
tests_of (set_extension m p e n) = mode m ∷ long p ∷ long e ∷ test (holds (is_sep (seps_of m)) e) Name ∷ absent (is_here (last_name (seps_of m) p)) ∷ room n (made (extended (seps_of m) p e)) ∷ []
tests_of (absolute m s cwd n) = test (ltb 0 m) Mode ∷ long s ∷ long cwd ∷ test (eqb (length s) 0) Empty ∷ baseless s cwd ∷ room n (finished s (start_for s cwd)) ∷ []

-- "Where several hold, the order is 1, 2, 8, 4, 5, 6, 3, 7."
pub in_order : (c : Call) → rising 1 (tests_of c) ≡ true
unfolding tests_of rising
in_order (prefix m s) = refl
in_order (next c s) = refl
in_order (next_back c s) = refl
in_order (as_path c s) = refl
in_order (parent m s) = refl
in_order (ancestor m s n) = refl
in_order (file_name m s) = refl
in_order (file_stem m s) = refl
in_order (extension m s) = refl
in_order (has_root_test m s) = refl
in_order (is_absolute_test m s) = refl
in_order (compare m p q) = refl
in_order (starts_with_test m p q) = refl
in_order (ends_with_test m p q) = refl
in_order (strip_prefix m p q) = refl
in_order (join m p q n) = refl
in_order (set_file_name m p q n) = refl
in_order (set_extension m p e n) = refl
in_order (absolute m s cwd n) = refl

-- ---- one law a shape: a guard in front, and the end of the chain

module _ {A : Type 0} (reply : A → Reply) (f : Reply → A) (h : (r : Reply) → reply (f r) ≡ r) where
  told_test : (b c : Bool) (k : Reply) (o : Outcome A) (l : List Test) → b ≡ c → reply (told f o) ≡ first_of l → reply (told f (guard b k o)) ≡ first_of (test c k ∷ l)
  unfolding told guard first_of
  told_test b c k o l e d = rw e (split c (λ t. rw t (h k)) (λ t. rw t d))

  told_done : (a : A) → reply a ≡ Done → reply (told f (give a)) ≡ first_of []
  unfolding told first_of
  told_done a e = e

  -- a call of one path, and of two
  told_one : (m : ℕ) (s : List ℕ) (o : Outcome A) (l : List Test) → reply (told f o) ≡ first_of l → reply (told f (in_mode m (short s o))) ≡ first_of (mode m ∷ long s ∷ l)
  told_one m s o l e = told_test _ _ Mode _ _ refl (told_test _ _ Length o l refl e)

  told_two : (m : ℕ) (p q : List ℕ) (o : Outcome A) (l : List Test) → reply (told f o) ≡ first_of l → reply (told f (in_mode m (short p (short q o)))) ≡ first_of (mode m ∷ long p ∷ long q ∷ l)
  told_two m p q o l e = told_one m p _ _ (told_test _ _ Length o l refl e)

  -- Absent, or Done
  told_present : (b c : Bool) (a : A) → b ≡ c → reply a ≡ Done → reply (told f (guard b Absent (give a))) ≡ first_of (test c Absent ∷ [])
  told_present b c a e d = told_test b c Absent (give a) [] e (told_done a d)

module _ (n : ℕ) where
  wrote_test : (b c : Bool) (k : Reply) (o : Outcome (List ℕ)) (l : List Test) → b ≡ c → (answered n o).reply ≡ first_of l → (answered n (guard b k o)).reply ≡ first_of (test c k ∷ l)
  unfolding answered guard first_of
  wrote_test b c k o l e d = rw e (split c (λ t. rw t) (λ t. rw t d))

  -- Room, or Done
  wrote_room : (w : List ℕ) → (answered n (give w)).reply ≡ first_of (room n w ∷ [])
  unfolding answered first_of
  wrote_room w =
      split (leb (length w) n)
      (λ t. rw (t, le-ltb n (length w) (leb-true (length w) n t)))
      (λ t. rw (t, lt-ltb n (length w) (leb-false (length w) n t)))

  wrote_two : (m : ℕ) (p q : List ℕ) (o : Outcome (List ℕ)) (l : List Test) → (answered n o).reply ≡ first_of l → (answered n (in_mode m (short p (short q o)))).reply ≡ first_of (mode m ∷ long p ∷ long q ∷ l)
  wrote_two m p q o l e = wrote_test _ _ Mode _ _ refl (wrote_test _ _ Length _ _ refl (wrote_test _ _ Length o l refl e))

-- ---- what stands behind the guards of each call

abbrev view_reply : View → Reply
view_reply a = a.reply

abbrev verdict_reply : Verdict → Reply
verdict_reply a = a.reply

abbrev pub step_reply : Stepped → Reply
step_reply a = a.reply

abbrev prefix_reply : Prefixed → Reply
prefix_reply a = a.reply

not_not : (b : Bool) → not (not b) ≡ b
not_not true = refl
not_not false = refl

took_done : (i : Option Element) (d : Cursor) → (took_at i d).reply ≡ Done
took_done None d = refl
took_done (Some x) d = refl

step_reply_lem : (n : ℕ) (c : Cursor) (i : Option Element) (d : Cursor) → (told (refused_step c) (step_asked n c i d)).reply ≡ first_of (test (ltb n (c.front + c.back)) TooMany ∷ test (eqb (c.front + c.back) n) Absent ∷ [])
unfolding step_asked
step_reply_lem n c i d =
    told_test step_reply (refused_step c) (λ r. refl) _ _ TooMany _ _ refl
    (told_present step_reply (refused_step c) (λ r. refl) _ _ (took_at i d) (not_not _) (took_done i d))

climb_reply : (n : ℕ) (k : Seps) (s : List ℕ) → (told refused_view (ancestor_of n k s)).reply ≡ first_of (absent (climbs (list_of k s) n) ∷ [])
unfolding ancestor_of told guard first_of climbs rest_back
climb_reply n k s =
    split (eqb n 0)
    (λ t. rw (eqb-true n 0 t))
    (λ t. rw t (split (climbs (list_of k s) n) (λ c. rw c) (λ c. rw c)))

-- of the file name's element, if there is one
named_reply : (i : Option Element) (h : Element → Outcome View) → ((x : Element) → (told refused_view (h x)).reply ≡ Done) → (told refused_view (on_item i h)).reply ≡ first_of (absent (is_here i) ∷ [])
unfolding told first_of
named_reply None h d = refl
named_reply (Some x) h d = d x

whole_done : (s : List ℕ) (x : Element) → (told refused_view (whole_seen s x)).reply ≡ Done
unfolding told whole_seen
whole_done s x = refl

stem_done : (s : List ℕ) (x : Element) → (told refused_view (stem_seen s x)).reply ≡ Done
unfolding told stem_seen
stem_done s x = refl

pointed_reply : (i : Option Element) (s : List ℕ) → (told refused_view (on_item i (extension_seen s))).reply ≡ first_of (absent (pointed_at s i) ∷ [])
unfolding told first_of extension_seen
pointed_reply None s = refl
pointed_reply (Some x) s = told_present view_reply refused_view (λ r. refl) _ _ _ refl refl

stem_reply : (n : ℕ) (i : Option Element) (s : List ℕ) (g : View → List ℕ) → (answered n (on_view (on_item i (stem_seen s)) g)).reply ≡ first_of (absent (is_here i) ∷ room n (made (on_view (on_item i (stem_seen s)) g)) ∷ [])
unfolding answered first_of stem_seen
stem_reply n None s g = refl
stem_reply n (Some x) s g = wrote_room n (g (seen x.start (cond (eqb (dot_of s x) 0) x.len (dot_of s x))))

extended_reply : (n : ℕ) (k : Seps) (p e : List ℕ) → (answered n (extended k p e)).reply ≡ first_of (test (holds (is_sep k) e) Name ∷ absent (is_here (last_name k p)) ∷ room n (made (extended k p e)) ∷ [])
unfolding extended of_name answered guard first_of
extended_reply n k p e = split (holds (is_sep k) e) (λ t. rw t) (λ t. rw t (stem_reply n (last_name k p) p _))

not_cond : (a b : Bool) → not (cond a true b) ≡ cond a false (not b)
not_cond true b = refl
not_cond false b = refl

absolute_reply : (n : ℕ) (s cwd : List ℕ) → (answered n (absolute_of s cwd)).reply ≡ first_of (test (eqb (length s) 0) Empty ∷ baseless s cwd ∷ room n (finished s (start_for s cwd)) ∷ [])
unfolding absolute_of
absolute_reply n s cwd = wrote_test n _ _ Empty _ _ refl (wrote_test n _ _ Base _ _ (not_cond (is_absolute Unix s) (sep_at Unix cwd 0)) (wrote_room n _))

pub replies : (c : Call) → reply_to c ≡ first_of (tests_of c)
unfolding reply_to tests_of prefix_call prefix_asked next_call next_in next_back_call next_back_in rest_call rest_for view_call parent_of rest_back of_name test_call pair_call strip_of absolute_call
replies (prefix m s) = told_one prefix_reply refused_prefix (λ r. refl) m s _ _ (told_present prefix_reply refused_prefix (λ r. refl) _ _ _ refl refl)
replies (next c s) = told_one step_reply (refused_step c) (λ r. refl) c.mode s _ _ (step_reply_lem _ c _ _)
replies (next_back c s) = told_one step_reply (refused_step c) (λ r. refl) c.mode s _ _ (step_reply_lem _ c _ _)
replies (as_path c s) = told_one view_reply refused_view (λ r. refl) c.mode s _ _ (told_test view_reply refused_view (λ r. refl) _ _ TooMany _ _ refl (told_done view_reply refused_view (λ r. refl) _ refl))
replies (parent m s) = told_one view_reply refused_view (λ r. refl) m s _ _ (told_present view_reply refused_view (λ r. refl) _ _ _ refl refl)
replies (ancestor m s n) = told_one view_reply refused_view (λ r. refl) m s _ _ (climb_reply n (seps_of m) s)
replies (file_name m s) = told_one view_reply refused_view (λ r. refl) m s _ _ (named_reply (last_name (seps_of m) s) (whole_seen s) (whole_done s))
replies (file_stem m s) = told_one view_reply refused_view (λ r. refl) m s _ _ (named_reply (last_name (seps_of m) s) (stem_seen s) (stem_done s))
replies (extension m s) = told_one view_reply refused_view (λ r. refl) m s _ _ (pointed_reply (last_name (seps_of m) s) s)
replies (has_root_test m s) = told_one verdict_reply refused_verdict (λ r. refl) m s _ _ (told_done verdict_reply refused_verdict (λ r. refl) _ refl)
replies (is_absolute_test m s) = told_one verdict_reply refused_verdict (λ r. refl) m s _ _ (told_done verdict_reply refused_verdict (λ r. refl) _ refl)
replies (compare m p q) = told_two verdict_reply refused_verdict (λ r. refl) m p q _ _ (told_done verdict_reply refused_verdict (λ r. refl) _ refl)
replies (starts_with_test m p q) = told_two verdict_reply refused_verdict (λ r. refl) m p q _ _ (told_done verdict_reply refused_verdict (λ r. refl) _ refl)
replies (ends_with_test m p q) = told_two verdict_reply refused_verdict (λ r. refl) m p q _ _ (told_done verdict_reply refused_verdict (λ r. refl) _ refl)
replies (strip_prefix m p q) = told_two view_reply refused_view (λ r. refl) m p q _ _ (told_present view_reply refused_view (λ r. refl) _ _ _ refl refl)
replies (join m p q n) = wrote_two n m p q _ _ (wrote_room n _)
replies (set_file_name m p q n) = wrote_two n m p q _ _ (wrote_room n _)
replies (set_extension m p e n) = wrote_two n m p e _ _ (extended_reply n (seps_of m) p e)
replies (absolute m s cwd n) = wrote_test n _ _ Mode _ _ refl (wrote_test n _ _ Length _ _ refl (wrote_test n _ _ Length _ _ refl (absolute_reply n s cwd)))

-- every call gives a reply exactly where its first test that holds says so, or it is Done and none holds
pub exactly : (c : Call) (r : Reply) → (reply_to c ≡ r) ↔ Why (tests_of c) r
exactly c r = rw (replies c) (exactly_when (tests_of c) r)

-- 0 "otherwise": Done exactly where no test holds
pub otherwise_done : (c : Call) → (reply_to c ≡ Done) ↔ NoneHolds (tests_of c)
otherwise_done c = (λ e. done_none (tests_of c) 1 (omega arith) (in_order c) (sym (replies c) ∙ e), λ n. replies c ∙ done_when (tests_of c) n)
