-- "each next one the parent of the one before": over lists, and over the path's bytes.
use Prim.Native.Nat.{ℕ, zero, suc, ◌+◌, ◌-◌, ◌<◌, ◌≤◌}
use Rattle.std.proofs.Math.Numerals.{add-one}
use Rattle.std.proofs.Common.{sub-one, add-sub_of_le, ◌∙◌, ⊎_elim, inr, length-append, length-drop, take-append-drop, take-take}
use native.Mathlib.Omega.{arith}
use Rattle.std.specs.Prelude.{◌≡◌, Bool, false, cond, ◌⊎◌, get_or, take, drop, eqb, ltb, Option, Some, None}
use Rattle.std.proofs.Math.Path.{refl, sym, ap}
use mathlib.Core.List.{List, [], ◌∷◌, ◌++◌, append-nil}
use Rattle.std.proofs.Math.Bool.{true}
use Rattle.std.proofs.lemmas.Bool.{false≢true}
use Rattle.std.proofs.Math.Logic.{inl}
use Rattle.std.proofs.Math.ListN.{length, length-take}
use Rattle.std.proofs.Math.Seq.{take-length, length-take-le, get_or-take}
use borrow.Author.Tests.{eq-eqb, ne_eqb, eqb-true, eqb-false, ltb-true, ltb-false, lt-ltb}
use Rattle.octets.specs.Class.{is_sep, is_letter, class_of, seps_of}
use Rattle.octets.specs.Segment.{lead, end_of}
use Rattle.octets.specs.Laws.{split, end_more, end_out}
use Rattle.octets.specs.declared.Seps.{Seps}
use Rattle.octets.specs.declared.Seps.TheVariants.{Unix, Windows, Verbatim as OnlyBack}
use Rattle.answers.specs.declared.Reply.TheVariants.{Absent}
use Rattle.answers.specs.declared.View.{View}
use Rattle.answers.specs.Reply.{seen}
use Rattle.answers.specs.Outcome.{Outcome, refuse, give, guard}
use Rattle.prefixes.specs.declared.Prefix.TheVariants.{Verbatim, VerbatimUnc, VerbatimDisk, DeviceNs, Unc, Disk}
use Rattle.parts.specs.declared.Element.{Element}
use Rattle.parts.specs.declared.Kind.{Kind}
use Rattle.parts.specs.declared.Part.{Part}
use Rattle.parts.specs.Body.{dots, put, sort_at, sort_by, rest, from}
use Rattle.parts.specs.Elements.{nth_back_of}
use Rattle.parts.specs.Steps.{lift, within, BeginAt}
use Rattle.parts.specs.Laws.{back_before, begin_start, begin_here, begin_more, begin_out, seam_at, alone, ahead, within_none}
use Rattle.prefixes.specs.Prefix.{prefix_in, end_of_prefix, prefix_of, begins, drive, on_disk}
use Rattle.components.specs.declared.Dir.{Dir}
use Rattle.components.specs.declared.Dir.TheVariants.{Bare, Root, Implied, Dot as Lone}
use Rattle.components.specs.List.{sep_at, dot_at, inner_seps, behind_prefix, dir_of, dir_len, start_of, head_list, body_list, whole_of, list_of, rootless}
use Rattle.components.specs.Leaves.{OpenAt}
use Rattle.components.specs.Laws.{begin_is, dot_past, dot_not, dot_end, dot_sep}
use Rattle.prefixes.specs.Cut.{prefix_cut}
use Rattle.views.specs.Leaves.{cut_of, up_by, list_to, head_up}
use Rattle.views.specs.Views.{climbs, rest_back, parent_of, ancestor_of}
use Rattle.cursors.specs.Rest.{is_bare, dotted}
use Rattle.cursors.specs.Laws.{dot_in_lem, drive_alone}
use Rattle.views.specs.Laws.{climbs_few, up_on, up_rest, stays, head_alone, ends_at, alone as head-lone, parted, cut_last, whole_left, dot_same, kind_leaves}
use Rattle.prefixes.specs.declared.Prefix.{Prefix}

-- ---- over lists: the ancestor one further is the parent of the list without its last n components

module _ (l : List Element) (n : ℕ) (h : n ≤ length l) where
  long : length (take (length l - n) l) ≡ length l - n
  long = length-take-le (length l - n) l (omega arith)

  back_front : (b : ℕ) → nth_back_of (take (length l - n) l) b ≡ nth_back_of l (n + b)
  back_front b =
      let m : length (drop (length l - n) l) ≡ n = omega (arith, length-drop (length l - n) l) in
      let k : n + b - length (drop (length l - n) l) ≡ b = omega arith in
      sym (ap (λ (x : List Element). nth_back_of x (n + b)) (sym (take-append-drop (length l - n) l))
      ∙ back_before (take (length l - n) l) (drop (length l - n) l) (n + b) (omega arith)
      ∙ ap (nth_back_of (take (length l - n) l)) k)

  same_end : (b : ℕ) → eqb (length (take (length l - n) l)) (b + 1) ≡ eqb (length l) (n + b + 1)
  same_end b =
      split (eqb (length l) (n + b + 1))
      (λ e. rw e (eq-eqb (length (take (length l - n) l)) (b + 1) (omega (arith, long, eqb-true (length l) (n + b + 1) e))))
      (λ e. rw e (ne_eqb (length (take (length l - n) l)) (b + 1) (λ z. eqb-false (length l) (n + b + 1) e (omega (arith, long)))))

  cut_front : (dot : Bool) (b : ℕ) → cut_of dot (take (length l - n) l) b ≡ cut_of dot l (n + b)
  unfolding cut_of
  cut_front dot b = rw (back_front b, same_end b)

module _ (dot : Bool) (l : List Element) (n : ℕ) where
  pub next_parent : climbs l n ≡ true → up_by dot l (n + 1) ≡ up_by dot (take (length l - n) l) 1
  unfolding up_by climbs
  next_parent e =
      let f = climbs_few l n e in
      let g : nth_back_of (take (length l - n) l) 0 ≡ nth_back_of l n = back_front l n f 0 ∙ ap (nth_back_of l) (omega arith) in
      rw (cut_front l n f dot 1, g, add-one, e)

  pub next_absent : climbs l n ≡ false → up_by dot l (n + 1) ≡ refuse Absent
  unfolding up_by climbs guard
  next_absent e = rw (add-one, e)

-- ---- the last part of a list between two places, found from its end

-- q is the last part between lo and top; what stands up to its end is the same list
record Final (sep : ℕ → Bool) (v : Bool) (s : List ℕ) (lo top : ℕ) (q : Part) : Type 0 where
  is : within sep v s lo top ≡ within sep v s lo q.start ++ (lift q ∷ [])
  same : within sep v s lo (q.start + q.len) ≡ within sep v s lo top
  low : q.start ≤ top
  high : q.start + q.len ≤ top

by_sort : {A : Type 0} (o : Option Kind) → (o ≡ None → A) → ((q : Kind) → o ≡ Some q → A) → A
by_sort None f g = f refl
by_sort (Some q) f g = g q refl

module _ (sep : ℕ → Bool) (v : Bool) (s : List ℕ) (lo : ℕ) {A : Type 0} where
  begin_by : (hi : ℕ) → hi ≤ length s → (i : ℕ) → lo ≤ i → i ≤ hi → end_of sep (take hi s) i ≡ hi → ((r : ℕ) → BeginAt sep s lo hi r → A) → A
  begin_by hi c zero l h e f = f 0 (begin_out sep s lo hi 0 e c h l (omega arith))
  begin_by hi c (suc i) l h e f =
      split (ltb lo (suc i))
      (λ t. let m = ltb-true lo (suc i) t in
      split (sep (get_or s (suc i - 1) 0))
      (λ y. f (suc i) (begin_here sep s lo hi (suc i) e c h (sep (get_or s (suc i - 1) 0)) refl m y))
      (λ y. begin_by hi c i (omega arith) (omega arith) (rw sub-one at (begin_more sep s lo hi (suc i) e c h (sep (get_or s (suc i - 1) 0)) refl m y)) f))
      (λ t. f (suc i) (begin_out sep s lo hi (suc i) e c h l (ltb-false lo (suc i) t)))

  module _ (top : ℕ) (c : top ≤ length s) (f : within sep v s lo top ≡ [] → A) (g : (q : Part) → Final sep v s lo top q → A) where
    last_from : (n hi : ℕ) → hi ≤ n → hi ≤ top → within sep v s lo top ≡ within sep v s lo hi → A
    last_from zero hi m d e = f (e ∙ within_none sep v s lo hi (omega arith) (omega arith))
    last_from (suc n) hi m d e =
        split (ltb lo hi)
        (λ t. let l = ltb-true lo hi t in
        begin_by hi (omega arith) hi (omega arith) (omega arith) (begin_start sep s hi (omega arith)) (λ i b.
        let j = b.high in
        let w : within sep v s lo top ≡ within sep v s lo i ++ put (sort_at v s i hi) i (hi - i) [] =
        e ∙ seam_at sep v s lo i hi (omega arith) b ∙ rw (alone sep v s i hi (omega arith) b.high b.clear) in
        by_sort (sort_at v s i hi)
        (λ y. let x : within sep v s lo top ≡ within sep v s lo i = w ∙ rw (y, append-nil) in
        split (ltb lo i)
        (λ u. let p = ltb-true lo i u in
        last_from n (i - 1) (omega arith) (omega arith) (x ∙ ahead sep v s lo i p (omega arith) (⊎_elim (λ z. absurd (omega arith)) (λ z. z.1) b.edge)))
        (λ u. f (x ∙ within_none sep v s lo i (ltb-false lo i u) (omega arith))))
        (λ q y. g (record { kind = q; start = i; len = hi - i }) (record {
          is = w ∙ rw y;
          same = rw (add-sub_of_le b.high) (sym e);
          low = omega arith;
          high = omega arith;
        }))))
        (λ t. f (e ∙ within_none sep v s lo hi (ltb-false lo hi t) (omega arith)))

    last_by : A
    last_by = last_from top top (omega arith) (omega arith) refl

-- ---- a path cut behind its head

is_dot_sep : (k : Seps) → is_sep k 46 ≡ false
is_dot_sep Unix = refl
is_dot_sep Windows = refl
is_dot_sep OnlyBack = refl

-- what stands at place i of a path is seen in its first e bytes too
module _ (k : Seps) (s : List ℕ) (e : ℕ) (c : e ≤ length s) where
  sep_take : (i : ℕ) → (sep_at k s i ≡ true → i < e) → sep_at k (take e s) i ≡ sep_at k s i
  unfolding sep_at
  sep_take i f =
      let n : length (take e s) ≡ e = length-take-le e s c in
      split (ltb i e)
      (λ t. let l = ltb-true i e t in rw (n, t, lt-ltb i (length s) (omega arith), get_or-take e s i 0 l))
      (λ t. rw (n, t) (split (sep_at k s i) (λ y. absurd (omega (arith, f y, ltb-false i e t))) (λ y. sym y)))

  dot_take : (i : ℕ) → (dot_at k s i ≡ true → i < e) → (e ≡ i + 1 → get_or s i 0 ≡ 46 → dot_at k s i ≡ true) → dot_at k (take e s) i ≡ dot_at k s i
  dot_take i f g =
      let n : length (take e s) ≡ e = length-take-le e s c in
      split (ltb i e)
      (λ t. let l = ltb-true i e t in
      let b : get_or (take e s) i 0 ≡ get_or s i 0 = get_or-take e s i 0 l in
      split (eqb (get_or s i 0) 46)
      (λ y. let d = eqb-true (get_or s i 0) 46 y in
      split (eqb e (i + 1))
      (λ z. let x = eqb-true e (i + 1) z in sym (dot_end k (take e s) i (b ∙ d) (omega arith)) ∙ sym (g x d))
      (λ z. let x = eqb-false e (i + 1) z in
      sym (dot_sep k (take e s) i (b ∙ d) (sep_at k (take e s) (i + 1)) (λ w. x (omega arith)) refl)
      ∙ sep_take (i + 1) (λ w. let m : e ≡ i + 1 → ⊥ = x in omega arith)
      ∙ dot_sep k s i d (sep_at k s (i + 1)) (λ w. x (omega arith)) refl))
      (λ y. let d = eqb-false (get_or s i 0) 46 y in sym (dot_not k (take e s) i (λ w. d (sym b ∙ w))) ∙ dot_not k s i d))
      (λ t. let l = ltb-false i e t in
      sym (dot_past k (take e s) i (omega arith)) ∙ split (dot_at k s i) (λ y. absurd (omega (arith, f y))) (λ y. sym y))

-- a lone dot of the body is no component
dot_skip : (sep : ℕ → Bool) (v : Bool) (s : List ℕ) (i : ℕ) → sep 46 ≡ false → v ≡ false → i + 1 ≤ length s → get_or s i 0 ≡ 46 → within sep v s i (i + 1) ≡ []
unfolding sort_by
dot_skip sep v s i a b c d =
    let n : length (take (i + 1) s) ≡ i + 1 = length-take-le (i + 1) s c in
    let g : get_or (take (i + 1) s) i 0 ≡ 46 = get_or-take (i + 1) s i 0 (omega arith) ∙ d in
    let m : i + 1 - i ≡ 1 = omega arith in
    alone sep v s i (i + 1) c (omega arith) (end_more sep (take (i + 1) s) i (omega arith) (rw g a) ∙ end_out sep (take (i + 1) s) (i + 1) (omega arith))
    ∙ rw (m, d, b)

-- where a lone dot can follow: no prefix, or a drive
inner_same : (k : Seps) (p : Option Prefix) → rootless p ≡ true → inner_seps k p ≡ k
inner_same k None h = refl
inner_same k (Some (Verbatim n)) h = absurd (false≢true h)
inner_same k (Some (VerbatimUnc n)) h = absurd (false≢true h)
inner_same k (Some (VerbatimDisk d)) h = absurd (false≢true h)
inner_same k (Some (DeviceNs n)) h = absurd (false≢true h)
inner_same k (Some (Unc n)) h = absurd (false≢true h)
inner_same k (Some (Disk d)) h = refl

disk_rootless : (p : Option Prefix) → on_disk p ≡ true → rootless p ≡ true
disk_rootless None h = absurd (false≢true h)
disk_rootless (Some p) h = h

-- there, the dot is CurDir, or stands behind the drive
dot_sum : (k : Seps) (s : List ℕ) (p : Option Prefix) → rootless p ≡ true → sep_at k s (end_of_prefix p) ≡ false → dir_len (dir_of k p s (end_of_prefix p)) + cond (cond (on_disk p) (cond (is_bare (dir_of k p s (end_of_prefix p))) (dot_at (inner_seps k p) s (end_of_prefix p)) false) false) 1 0 ≡ cond (dot_at k s (end_of_prefix p)) 1 0
unfolding dir_of
dot_sum k s None h e = rw e (split (dot_at k s 0) (λ y. rw y) (λ y. rw y))
dot_sum k s (Some (Verbatim n)) h e = absurd (false≢true h)
dot_sum k s (Some (VerbatimUnc n)) h e = absurd (false≢true h)
dot_sum k s (Some (VerbatimDisk d)) h e = absurd (false≢true h)
dot_sum k s (Some (DeviceNs n)) h e = absurd (false≢true h)
dot_sum k s (Some (Unc n)) h e = absurd (false≢true h)
dot_sum k s (Some (Disk d)) h e = rw e (split (dot_at k s 2) (λ y. rw y) (λ y. rw y))

behind_take : (k : Seps) (s : List ℕ) (e : ℕ) (p : Option Prefix) → (rootless p ≡ true → dot_at k (take e s) (end_of_prefix p) ≡ dot_at k s (end_of_prefix p)) → behind_prefix k p (take e s) ≡ behind_prefix k p s
behind_take k s e None f = rw (f refl)
behind_take k s e (Some p) f = refl

dot_byte : (k : Seps) (s : List ℕ) (i : ℕ) → dot_at k s i ≡ true → get_or s i 0 ≡ 46
dot_byte k s i h = split (eqb (get_or s i 0) 46) (λ y. eqb-true (get_or s i 0) 46 y) (λ y. absurd (false≢true (dot_not k s i (eqb-false (get_or s i 0) 46 y) ∙ h)))

module _ (k : Seps) (v : dots k ≡ false) (s : List ℕ) where
  -- the list of the body up to e
  abbrev body_to : ℕ → List Element
  body_to e = within (is_sep (start_of k s).seps) (dots (start_of k s).seps) s (start_of k s).at e

  opened : OpenAt k s (start_of k s)
  unfolding start_of
  opened = begin_is k s (prefix_in k s) refl (end_of_prefix (prefix_in k s)) refl (dir_of k (prefix_in k s) s (end_of_prefix (prefix_in k s))) refl (dir_len (dir_of k (prefix_in k s) s (end_of_prefix (prefix_in k s)))) refl (inner_seps k (prefix_in k s)) refl

  -- e is where the head ends, with the dot behind a drive, or where a part ends
  abbrev Good : ℕ → Type 0
  Good e = (e ≡ (start_of k s).at + cond (dotted (start_of k s) s) 1 0) ⊎ (((start_of k s).at < e) × (body_to e ≡ [] → ⊥))

  at_is : (start_of k s).at ≡ end_of_prefix (prefix_in k s) + dir_len (dir_of k (prefix_in k s) s (end_of_prefix (prefix_in k s)))
  unfolding start_of
  at_is = refl

  -- where no separator follows no prefix or a drive: the head ends behind the dot, if there is one
  module _ (r : rootless (prefix_in k s) ≡ true) (n : sep_at k s (end_of_prefix (prefix_in k s)) ≡ false) where
    head_cut : (start_of k s).at + cond (dotted (start_of k s) s) 1 0 ≡ end_of_prefix (prefix_in k s) + cond (dot_at k s (end_of_prefix (prefix_in k s))) 1 0
    unfolding start_of dotted
    head_cut = omega (arith, dot_sum k s (prefix_in k s) r n)

    plain_at : dot_at k s (end_of_prefix (prefix_in k s)) ≡ false → (start_of k s).at ≡ end_of_prefix (prefix_in k s)
    plain_at y = let t = rw y at head_cut in omega (arith, at_is, t)

    plain_skip : dot_at k s (end_of_prefix (prefix_in k s)) ≡ false → end_of_prefix (prefix_in k s) + 1 ≤ length s → get_or s (end_of_prefix (prefix_in k s)) 0 ≡ 46 → body_to (end_of_prefix (prefix_in k s) + 1) ≡ []
    unfolding start_of
    plain_skip y l d = rw (plain_at y, inner_same k (prefix_in k s) r) (dot_skip (is_sep k) (dots k) s (end_of_prefix (prefix_in k s)) (is_dot_sep k) v l d)

  bare_plain : is_bare (start_of k s).dir ≡ true → sep_at k s (end_of_prefix (prefix_in k s)) ≡ false
  unfolding start_of dir_of
  bare_plain h = split (sep_at k s (end_of_prefix (prefix_in k s))) (λ y. absurd (false≢true (rw y at h))) (λ y. y)

  module _ (e : ℕ) (c : e ≤ length s) (g : Good e) where
    at_good : (start_of k s).at ≤ e
    at_good = ⊎_elim (λ w. omega arith) (λ w. omega (arith, w.0)) g

    sep_before : sep_at k s (end_of_prefix (prefix_in k s)) ≡ true → end_of_prefix (prefix_in k s) < e
    unfolding dir_of
    sep_before y = let t = rw y at at_is in omega (arith, at_good, t)

    dots_same : rootless (prefix_in k s) ≡ true → sep_at k s (end_of_prefix (prefix_in k s)) ≡ false → dot_at k (take e s) (end_of_prefix (prefix_in k s)) ≡ dot_at k s (end_of_prefix (prefix_in k s))
    dots_same r n =
        dot_take k s e c (end_of_prefix (prefix_in k s))
        (λ y. let t = rw y at (head_cut r n) in ⊎_elim (λ w. omega (arith, t)) (λ w. omega (arith, w.0, at_is)) g)
        (λ z d. split (dot_at k s (end_of_prefix (prefix_in k s)))
        (λ y. y)
        (λ y. let t = rw y at (head_cut r n) in
        absurd (⊎_elim (λ w. omega (arith, t)) (λ w. w.1 (rw z (plain_skip r n y (omega arith) d))) g)))

    dir_take : dir_of k (prefix_in k s) (take e s) (end_of_prefix (prefix_in k s)) ≡ dir_of k (prefix_in k s) s (end_of_prefix (prefix_in k s))
    unfolding dir_of
    dir_take =
        split (sep_at k s (end_of_prefix (prefix_in k s)))
        (λ y. rw (sep_take k s e c (end_of_prefix (prefix_in k s)) sep_before, y))
        (λ y. rw (sep_take k s e c (end_of_prefix (prefix_in k s)) sep_before, y) (behind_take k s e (prefix_in k s) (λ r. dots_same r y)))

    behind_same : dotted (start_of k s) (take e s) ≡ dotted (start_of k s) s
    unfolding dotted start_of
    behind_same =
        split (on_disk (prefix_in k s))
        (λ x. let r = disk_rootless (prefix_in k s) x in
        split (is_bare (start_of k s).dir)
        (λ y. rw (x, y, inner_same k (prefix_in k s) r) (dots_same r (bare_plain y)))
        (λ y. rw (x, y)))
        (λ x. rw x)

    module _ (p : prefix_in k (take e s) ≡ prefix_in k s) where
      start_take : start_of k (take e s) ≡ start_of k s
      unfolding start_of
      start_take = rw (p, dir_take)

      list_take : list_of k (take e s) ≡ list_to (start_of k s) s e
      unfolding list_of whole_of body_list list_to within
      list_take = rw start_take

      disk_take : dotted (start_of k (take e s)) (take e s) ≡ dotted (start_of k s) s
      disk_take = rw start_take behind_same

  -- ---- the list up to a place, and where it ends
  record Trimmed (top e : ℕ) : Type 0 where
    same : list_to (start_of k s) s e ≡ list_to (start_of k s) s top
    inside : e ≤ length s
    good : Good e

  head_end : cut_of (dotted (start_of k s) s) (head_list (start_of k s)) 0 ≡ (start_of k s).at + cond (dotted (start_of k s) s) 1 0
  unfolding cut_of
  head_end =
      let o = opened in
      split (dotted (start_of k s) s)
      (λ y. rw (ends_at k s (start_of k s) o, y, head-lone k s (start_of k s) o (sym (dot_same k s (start_of k s) o) ∙ y)))
      (λ y. rw (ends_at k s (start_of k s) o, y))

  -- behind the head nothing but the dot
  drive_skip : dotted (start_of k s) s ≡ true → body_to ((start_of k s).at + 1) ≡ []
  unfolding dotted start_of
  drive_skip y =
      let p = prefix_in k s in
      let i = end_of_prefix (prefix_in k s) in
      let a = drive_alone (inner_seps k p) s p (dir_of k p s i) i y in
      let z : (start_of k s).at ≡ i = omega (arith, a.1) in
      let r : rootless p ≡ true = disk_rootless p (split (on_disk p) (λ x. x) (λ x. absurd (false≢true (rw x at y)))) in
      let l = dot_in_lem k s (start_of k s) opened y in
      rw (z, inner_same k p r) (dot_skip (is_sep k) (dots k) s i (is_dot_sep k) v (omega arith) (dot_byte (inner_seps k p) s i a.2))

  head_bare : body_to ((start_of k s).at + cond (dotted (start_of k s) s) 1 0) ≡ []
  head_bare =
      let o = opened in
      let m = dot_same k s (start_of k s) o in
      split (dotted (start_of k s) s)
      (λ y. rw y (drive_skip (sym m ∙ y)))
      (λ y. rw y (within_none (is_sep (start_of k s).seps) (dots (start_of k s).seps) s (start_of k s).at ((start_of k s).at + 0) (omega arith) (omega (arith, o.high))))

  trim_head : (top : ℕ) → body_to top ≡ [] → Trimmed top (cut_of (dotted (start_of k s) s) (list_to (start_of k s) s top) 0)
  unfolding list_to
  trim_head top z =
      let o = opened in
      let m = dot_same k s (start_of k s) o in
      rw (z, append-nil, head_end)
      (record {
        same = rw (head_bare, z);
        inside = split (dotted (start_of k s) s) (λ y. rw y (dot_in_lem k s (start_of k s) o (sym m ∙ y))) (λ y. rw y (omega (arith, o.high)));
        good = inl refl;
      })

  same_left : (a b : ℕ) → body_to a ≡ body_to b → list_to (start_of k s) s a ≡ list_to (start_of k s) s b
  unfolding list_to
  same_left a b h = rw h

  trim_part : (top : ℕ) → top ≤ length s → (q : Part) → Final (is_sep (start_of k s).seps) (dots (start_of k s).seps) s (start_of k s).at top q → Trimmed top (cut_of (dotted (start_of k s) s) (list_to (start_of k s) s top) 0)
  trim_part top c q f =
      let o = opened in
      let sep = is_sep (start_of k s).seps in
      let x : cut_of (dotted (start_of k s) s) (list_to (start_of k s) s top) 0 ≡ q.start + q.len = rw (dot_same k s (start_of k s) o) (cut_last k s (start_of k s) o top (body_to q.start) (lift q) f.is) in
      let a : body_to (q.start + q.len) ≡ [] → ⊥ = λ z. omega (arith, ap length (sym z ∙ f.same ∙ f.is), length-append (body_to q.start) (lift q ∷ [])) in
      let b : q.start + q.len ≤ length s = omega (arith, f.high) in
      rw x
      (record {
        same = same_left (q.start + q.len) top f.same;
        inside = b;
        good = inr (split (ltb (start_of k s).at (q.start + q.len)) (λ t. ltb-true (start_of k s).at (q.start + q.len) t) (λ t. absurd (a (within_none sep (dots (start_of k s).seps) s (start_of k s).at (q.start + q.len) (ltb-false (start_of k s).at (q.start + q.len) t) b))), a);
      })

  trim : (top : ℕ) → top ≤ length s → Trimmed top (cut_of (dotted (start_of k s) s) (list_to (start_of k s) s top) 0)
  trim top c = last_by (is_sep (start_of k s).seps) (dots (start_of k s).seps) s (start_of k s).at top c (trim_head top) (trim_part top c)

-- ---- the parent of the one before

-- what f makes of the one before; Absent once there is none
abbrev pub on_cut : Outcome View → (ℕ → Outcome View) → Outcome View
on_cut (refuse r) f = refuse r
on_cut (give v) f = f v.len

parent_up : (k : Seps) (s : List ℕ) → parent_of k s ≡ up_by (dotted (start_of k s) s) (list_of k s) 1
unfolding parent_of rest_back climbs
parent_up k s = sym (up_rest (list_of k s) 1 (dotted (start_of k s) s))

ancestor_up : (n : ℕ) (k : Seps) (s : List ℕ) → ancestor_of (suc n) k s ≡ up_by (dotted (start_of k s) s) (list_of k s) (suc n)
unfolding ancestor_of rest_back
ancestor_up n k s = rw (ne_eqb (suc n) 0 (λ z. omega arith)) (sym (up_rest (list_of k s) (suc n) (dotted (start_of k s) s)))

empty_list : (k : Seps) → list_of k [] ≡ []
unfolding list_of whole_of head_list body_list start_of dir_of dot_at sep_at from rest lead sort_by prefix_of begins drive is_letter class_of
empty_list Unix = refl
empty_list Windows = refl
empty_list OnlyBack = refl

-- a lone dot: the empty path, and no more
lone_next : (k : Seps) (n : ℕ) → head_up Lone (suc n) ≡ ancestor_of n k []
unfolding ancestor_of nth_back_of
lone_next k zero = refl
lone_next k (suc n) = rw (ancestor_up n k [], empty_list k, ne_eqb (suc (suc n)) 1 (λ z. omega arith)) (sym (stays (dotted (start_of k []) []) [] n refl))

on_same : (o : Outcome View) (f g : ℕ → Outcome View) → ((e : ℕ) → f e ≡ g e) → on_cut o f ≡ on_cut o g
on_same (refuse r) f g h = refl
on_same (give v) f g h = h v.len

on_on : (o : Outcome View) (f g : ℕ → Outcome View) → on_cut o (λ e. on_cut (f e) g) ≡ on_cut (on_cut o f) g
on_on (refuse r) f g = refl
on_on (give v) f g = refl

-- a view of at most m bytes
abbrev Within : ℕ → Outcome View → Type 0
Within m (refuse r) = Unit
Within m (give v) = v.len ≤ m

wider : (a b : ℕ) (o : Outcome View) → a ≤ b → Within a o → Within b o
wider a b (refuse r) h w = tt
wider a b (give v) h w = omega (arith, w)

on_within : (m : ℕ) (o : Outcome View) (f : ℕ → Outcome View) → ((e : ℕ) → Within m (f e)) → Within m (on_cut o f)
on_within m (refuse r) f h = tt
on_within m (give v) f h = h v.len

on_same_within : (m : ℕ) (o : Outcome View) (f g : ℕ → Outcome View) → Within m o → ((e : ℕ) → e ≤ m → f e ≡ g e) → on_cut o f ≡ on_cut o g
on_same_within m (refuse r) f g w h = refl
on_same_within m (give v) f g w h = h v.len w

-- a prefix is the same in what remains of its path
module _ (k : Seps) (v : dots k ≡ false) (stable : (s : List ℕ) (e : ℕ) → (start_of k s).at ≤ e → prefix_in k (take e s) ≡ prefix_in k s) where
  module _ (s : List ℕ) where
    -- from the other end: the ancestors of the parent
    case_dir : (d : Dir) (n : ℕ) → head_up d (suc n) ≡ on_cut (head_up d 1) (λ e. ancestor_of n k (take e s))
    case_dir Bare n = refl
    case_dir Root n = refl
    case_dir Implied n = refl
    case_dir Lone n = lone_next k n

    front_head : (n : ℕ) → body_to k v s (length s) ≡ [] → ancestor_of (suc n) k s ≡ on_cut (parent_of k s) (λ e. ancestor_of n k (take e s))
    unfolding list_to
    front_head n z =
        let o = opened k v s in
        let l : list_of k s ≡ head_list (start_of k s) = whole_left k s (start_of k s) o ∙ rw (z, append-nil) in
        let b : parent_of k s ≡ head_up (start_of k s).dir 1 = parent_up k s ∙ rw l (head_alone k s (start_of k s) o (dotted (start_of k s) s) 0) in
        ancestor_up n k s ∙ rw (l, head_alone k s (start_of k s) o (dotted (start_of k s) s) n, b) (case_dir (start_of k s).dir n)

    module _ (q : Part) (f : Final (is_sep (start_of k s).seps) (dots (start_of k s).seps) s (start_of k s).at (length s) q) where
      cut : ℕ
      cut = cut_of (dotted (start_of k s) s) (list_to (start_of k s) s q.start) 0

      trimmed : Trimmed k v s q.start cut
      unfolding cut
      trimmed = trim k v s q.start f.low

      split_list : list_of k s ≡ list_to (start_of k s) s q.start ++ (lift q ∷ [])
      unfolding list_to
      split_list = whole_left k s (start_of k s) (opened k v s) ∙ parted k s (start_of k s) (opened k v s) (length s) (body_to k v s q.start) (lift q) f.is

      up_part : (n : ℕ) → up_by (dotted (start_of k s) s) (list_of k s) (n + 1) ≡ up_by (dotted (start_of k s) s) (list_to (start_of k s) s q.start) n
      up_part n = rw split_list (up_on (list_to (start_of k s) s q.start) (lift q) (kind_leaves q.kind) (dotted (start_of k s) s) n)

      rest_more : (n : ℕ) → up_by (dotted (start_of k s) s) (list_to (start_of k s) s q.start) (suc n) ≡ ancestor_of (suc n) k (take cut s)
      rest_more n =
          let t = trimmed in
          let p = stable s cut (at_good k v s cut t.inside t.good) in
          sym (ancestor_up n k (take cut s) ∙ rw (disk_take k v s cut t.inside t.good p, list_take k v s cut t.inside t.good p, t.same))

      rest_of : (n : ℕ) → up_by (dotted (start_of k s) s) (list_to (start_of k s) s q.start) n ≡ ancestor_of n k (take cut s)
      unfolding ancestor_of up_by climbs guard cut
      rest_of zero = rw (length-take-le cut s trimmed.inside)
      rest_of (suc n) = rest_more n

      none_taken : up_by (dotted (start_of k s) s) (list_to (start_of k s) s q.start) 0 ≡ give (seen 0 cut)
      unfolding up_by climbs guard cut
      none_taken = refl

      front_part : (n : ℕ) → ancestor_of (suc n) k s ≡ on_cut (parent_of k s) (λ e. ancestor_of n k (take e s))
      front_part n =
          let b : parent_of k s ≡ give (seen 0 cut) = parent_up k s ∙ up_part 0 ∙ none_taken in
          ancestor_up n k s ∙ rw (← add-one n) (up_part n ∙ rw b (rest_of n))

    front : (n : ℕ) → ancestor_of (suc n) k s ≡ on_cut (parent_of k s) (λ e. ancestor_of n k (take e s))
    front n = last_by (is_sep (start_of k s).seps) (dots (start_of k s).seps) s (start_of k s).at (length s) (omega arith) (front_head n) (λ q f. front_part q f n)

  -- an ancestor lies in the path
  bound : (n : ℕ) (s : List ℕ) → Within (length s) (ancestor_of n k s)
  unfolding ancestor_of
  bound zero s = omega arith
  bound (suc n) s = rw (front s n) (on_within (length s) (parent_of k s) (λ e. ancestor_of n k (take e s)) (λ e. wider (length (take e s)) (length s) (ancestor_of n k (take e s)) (omega (arith, length-take e s)) (bound n (take e s))))

  next_of : (n : ℕ) (s : List ℕ) → ancestor_of (n + 1) k s ≡ on_cut (ancestor_of n k s) (λ e. parent_of k (take e s))
  unfolding ancestor_of
  next_of zero s = rw (take-length s) (ancestor_up 0 k s ∙ sym (parent_up k s))
  next_of (suc n) s =
      rw add-one
      (front s (suc n)
      ∙ on_same (parent_of k s) (λ e. ancestor_of (suc n) k (take e s)) (λ e. on_cut (ancestor_of n k (take e s)) (λ u. parent_of k (take u s)))
      (λ e. (rw add-one at (next_of n (take e s)))
      ∙ on_same_within (length (take e s)) (ancestor_of n k (take e s)) (λ u. parent_of k (take u (take e s))) (λ u. parent_of k (take u s)) (bound n (take e s))
      (λ u h. ap (parent_of k) (take-take u e s (omega (arith, length-take e s)))))
      ∙ on_on (parent_of k s) (λ e. ancestor_of n k (take e s)) (λ u. parent_of k (take u s))
      ∙ ap (λ (o : Outcome View). on_cut o (λ u. parent_of k (take u s))) (sym (front s n)))

-- Unix has no prefix; a Windows prefix stands as long as it and a separator that follows it remain
stable_of : (k : Seps) → dots k ≡ false → (s : List ℕ) (e : ℕ) → (start_of k s).at ≤ e → prefix_in k (take e s) ≡ prefix_in k s
unfolding start_of dir_of sep_at
stable_of Unix v s e h = refl
stable_of Windows v s e h =
    prefix_cut s e
    (omega arith)
    (λ l y. let t = rw (lt-ltb (end_of_prefix (prefix_of s)) (length s) l, y) at h in omega (arith, t))
stable_of OnlyBack v s e h = absurd (false≢true (sym v))

no_dots : (m : ℕ) → dots (seps_of m) ≡ false
unfolding seps_of
no_dots m = split (eqb m 0) (λ y. rw y) (λ y. rw y)

-- in either mode
pub next_one : (m n : ℕ) (s : List ℕ) → ancestor_of (n + 1) (seps_of m) s ≡ on_cut (ancestor_of n (seps_of m) s) (λ e. parent_of (seps_of m) (take e s))
next_one m n s = next_of (seps_of m) (no_dots m) (stable_of (seps_of m) (no_dots m)) n s
