-- The values of a path by its bytes alone, and the laws that the theorems of joins rest on: a separator parts the values, what stands
-- ahead of a body is told by the first two bytes, from an element on stands the body from its place on, and behind the last element
-- stand no values.
use Prim.Native.Nat.{ℕ, zero, suc, ◌+◌, ◌-◌, ◌<◌, ◌≤◌}
use Rattle.std.proofs.Common.{not-suc-le-zero, add-zero, ap, ◌∙◌, length-append, drop_of_length-le, take-append-drop, length-take-le, take_all, drop-cons}
use native.Mathlib.Omega.{arith}
use Rattle.std.proofs.Math.Numerals.{add-one}
use Rattle.std.proofs.Math.Path.{◌≡◌, refl, sym}
use mathlib.Core.List.{List, [], ◌∷◌, ◌++◌, append-nil, append_assoc}
use Rattle.std.specs.Prelude.{Bool, true, false, cond, length, get_or, take, eqb, ltb, Option, Some, None}
use Rattle.std.proofs.lemmas.Bool.{false≢true}
use Rattle.std.proofs.Math.ListN.{drop, length-drop}
use Rattle.std.proofs.Math.Seq.{take-nil, drop-drop, drop-append-add, get_or-drop, split_at}
use borrow.Author.Tests.{ne_eqb, lt-ltb, ltb-true, ltb-false, eqb-true, eqb-false}
use Rattle.octets.specs.Class.{is_sep}
use Rattle.octets.specs.Laws.{split}
use Rattle.octets.specs.Segment.{lead, end_of}
use Rattle.octets.specs.declared.Seps.{Seps}
use Rattle.octets.specs.declared.Seps.TheVariants.{Unix}
use Rattle.parts.specs.declared.Element.{Element}
use Rattle.parts.specs.declared.Kind.TheVariants.{Dot as LoneDot, DotDot, Name}
use Rattle.parts.specs.Body.{sort_by, sort_of, sort_at, put, rest, body, from}
use Rattle.parts.specs.Elements.{nth_of, nth_back_of, start_or, end_or, bytes_at}
use Rattle.parts.specs.Laws.{seam, step, from_end, nth_behind, back_nth, back_behind, from_good, good_nth}
use Rattle.components.specs.declared.Dir.{Dir}
use Rattle.components.specs.declared.Dir.TheVariants.{Bare, Root, Implied, Dot}
use Rattle.components.specs.List.{sep_at, dot_at, dir_of, dir_len, start_of, dir_part, head_list, body_list, whole_of, list_of}
use Rattle.components.specs.Laws.{dir_few, open_start}
use Rattle.cursors.specs.Rest.{is_prefix}
use Rattle.order.specs.Values.{Value, valued, values_in, values_of}
use Rattle.order.specs.Leaves.{dir_rank, dir_values}
use Rattle.order.proofs.HeadLaws.{values_append, dir_values_lem}
use Rattle.matches.specs.Laws.{plain_first}
use Rattle.laws.specs.Walks.{stands}
use Rattle.parts.specs.declared.Kind.{Kind}

-- ---- a body's values, by its bytes

-- the value of the segment w, before the values l
abbrev pub lay : Option Kind → List ℕ → List Value → List Value
lay None w l = l
lay (Some LoneDot) w l = valued 3 [] ∷ l
lay (Some DotDot) w l = valued 4 [] ∷ l
lay (Some Name) w l = valued 5 w ∷ l

-- the values of the segments of xs behind its first separator, and of all its segments
unfoldable pub later : (ℕ → Bool) → Bool → List ℕ → List Value
later sep v [] = []
later sep v (x ∷ xs) = cond (sep x) (lay (sort_of v (lead sep xs)) (lead sep xs) (later sep v xs)) (later sep v xs)

unfoldable pub segments : (ℕ → Bool) → Bool → List ℕ → List Value
segments sep v xs = lay (sort_of v (lead sep xs)) (lead sep xs) (later sep v xs)

module _ (sep : ℕ → Bool) (v : Bool) where
  lead_front : (xs z : List ℕ) → take (length (lead sep xs)) (xs ++ z) ≡ lead sep xs
  unfolding lead
  lead_front [] z = refl
  lead_front (x ∷ xs) z = split (sep x) (λ e. rw e) (λ e. rw (e, lead_front xs z))

  -- xs stands in s from place i on
  module _ (s : List ℕ) where
    put_values : (i : ℕ) (xs z : List ℕ) (l : List Element) (m : List Value) → drop i s ≡ xs ++ z → values_in s l ≡ m → (q : Option Kind) → values_in s (put q i (length (lead sep xs)) l) ≡ lay q (lead sep xs) m
    unfolding values_in
    put_values i xs z l m e h None = h
    put_values i xs z l m e h (Some LoneDot) = rw h
    put_values i xs z l m e h (Some DotDot) = rw h
    put_values i xs z l m e h (Some Name) = rw (e, lead_front xs z, h)

    rest_values : (i : ℕ) (xs z : List ℕ) → drop i s ≡ xs ++ z → values_in s (rest sep v i xs) ≡ later sep v xs
    unfolding rest later values_in
    rest_values i [] z e = refl
    rest_values i (x ∷ xs) z e =
        let d : drop (suc i) s ≡ xs ++ z = rw (← add-one i, ← drop-drop 1 i s) (ap (drop 1) e) in
        let h : values_in s (rest sep v (suc i) xs) ≡ later sep v xs = rest_values (suc i) xs z d in
        split (sep x) (λ f. rw f (put_values (suc i) xs z _ _ d h (sort_of v (lead sep xs)))) (λ f. rw f h)

    pub body_values_lem : (i : ℕ) (xs z : List ℕ) → drop i s ≡ xs ++ z → values_in s (body sep v i xs) ≡ segments sep v xs
    unfolding segments
    body_values_lem i xs z e = put_values i xs z _ _ e (rest_values i xs z e) (sort_of v (lead sep xs))

    -- values do not depend on places
    pub from_values : (i : ℕ) → values_in s (from sep v s i) ≡ segments sep v (drop i s)
    unfolding from
    from_values i = body_values_lem i (drop i s) [] (sym (append-nil (drop i s)))

  pub segments_none : segments sep v [] ≡ []
  unfolding segments later lead sort_by
  segments_none = refl

  -- a separator parts the values
  pub segments_seam : (r : List ℕ) (y : ℕ) (w : List ℕ) → sep y ≡ true → segments sep v (r ++ y ∷ w) ≡ segments sep v r ++ segments sep v w
  segments_seam r y w e =
      let s : List ℕ = r ++ y ∷ w in
      let n : 0 + suc (length r) ≡ length r + 1 = omega arith in
      let d : drop (0 + suc (length r)) s ≡ w ++ [] = rw (n, append-nil) (drop-append-add r (y ∷ w) 1) in
      sym (body_values_lem s 0 s [] (sym (append-nil s)))
      ∙ ap (values_in s) (seam sep v 0 r y w e)
      ∙ values_append s (body sep v 0 r) (body sep v (0 + suc (length r)) w)
      ∙ rw (body_values_lem s 0 r (y ∷ w) refl, body_values_lem s (0 + suc (length r)) w [] d)

  pub segments_sep : (y : ℕ) (w : List ℕ) → sep y ≡ true → segments sep v (y ∷ w) ≡ segments sep v w
  segments_sep y w e = segments_seam [] y w e ∙ rw segments_none

-- ---- what stands ahead of a body, where a path has no prefix

abbrev pub dir_by : Bool → Bool → Dir
dir_by root dot = cond root Root (cond dot Dot Bare)

module _ (k : Seps) where
  pub ahead_none : dir_of k None [] 0 ≡ Bare
  unfolding dir_of sep_at dot_at
  ahead_none = refl

  pub ahead_one : (x : ℕ) → dir_of k None (x ∷ []) 0 ≡ dir_by (is_sep k x) (eqb x 46)
  unfolding dir_of sep_at dot_at
  ahead_one x = split (is_sep k x) (λ e. rw e) (λ e. rw e (split (eqb x 46) (λ f. rw f) (λ f. rw f)))

  pub ahead_two : (x y : ℕ) (s : List ℕ) → dir_of k None (x ∷ y ∷ s) 0 ≡ dir_by (is_sep k x) (cond (eqb x 46) (is_sep k y) false)
  unfolding dir_of sep_at dot_at
  ahead_two x y s =
      rw (lt-ltb 0 (suc (suc (length s))) (omega arith), lt-ltb 1 (suc (suc (length s))) (omega arith), ne_eqb 1 (suc (suc (length s))) (λ z. omega arith))

  -- a separator behind a path that is not empty does not change it
  pub ahead_seam : (u : List ℕ) (y : ℕ) (w : List ℕ) → (length u ≡ 0 → ⊥) → is_sep k y ≡ true → dir_of k None (u ++ y ∷ w) 0 ≡ dir_of k None u 0
  ahead_seam [] y w h e = absurd (h refl)
  ahead_seam (x ∷ []) y w h e = ahead_two x y w ∙ rw e (split (eqb x 46) (λ f. rw f) (λ f. rw f)) ∙ sym (ahead_one x)
  ahead_seam (x ∷ z ∷ u) y w h e = ahead_two x z (u ++ y ∷ w) ∙ sym (ahead_two x z u)

-- ---- a Unix path: what stands ahead of its body, its elements from place i on, and the values of its segments

abbrev pub top_of : List ℕ → Dir
top_of s = dir_of Unix None s 0

abbrev pub body_of : List ℕ → ℕ → List Element
body_of s i = from (is_sep Unix) false s i

abbrev pub parts_of : List ℕ → List Value
parts_of s = segments (is_sep Unix) false s

-- the body is that from the path's start on: a leading separator or a leading dot gives no element
body_from : (s : List ℕ) (d : Dir) → top_of s ≡ d → body_of s (0 + dir_len d) ≡ body_of s 0 → body_of s (0 + dir_len (top_of s)) ≡ body_of s 0
body_from s d e h = rw e h

body_plain : (s : List ℕ) → body_of s (0 + dir_len (top_of s)) ≡ body_of s 0
unfolding from rest lead sort_by
body_plain [] = body_from [] Bare (ahead_none Unix) refl
body_plain (x ∷ []) =
    split (eqb x 47)
    (λ e. body_from (x ∷ []) Root (ahead_one Unix x ∙ rw e) (rw e))
    (λ e. split (eqb x 46)
    (λ f. body_from (x ∷ []) Dot (ahead_one Unix x ∙ rw (e, f)) (rw (eqb-true x 46 f)))
    (λ f. body_from (x ∷ []) Bare (ahead_one Unix x ∙ rw (e, f)) refl))
body_plain (x ∷ y ∷ s) =
    split (eqb x 47)
    (λ e. body_from (x ∷ y ∷ s) Root (ahead_two Unix x y s ∙ rw e) (rw e))
    (λ e. split (eqb x 46)
    (λ f. split (eqb y 47)
    (λ g. body_from (x ∷ y ∷ s) Dot (ahead_two Unix x y s ∙ rw (e, f, g)) (rw (eqb-true x 46 f, g)))
    (λ g. body_from (x ∷ y ∷ s) Bare (ahead_two Unix x y s ∙ rw (e, f, g)) refl))
    (λ f. body_from (x ∷ y ∷ s) Bare (ahead_two Unix x y s ∙ rw (e, f)) refl))

pub list_plain : (s : List ℕ) → list_of Unix s ≡ dir_part (top_of s) 0 ++ body_of s 0
unfolding list_of whole_of head_list body_list start_of
list_plain s = rw (body_plain s)

pub list_none : list_of Unix [] ≡ []
unfolding from rest lead sort_by
list_none = list_plain [] ∙ rw (ahead_none Unix)

pub values_plain : (s : List ℕ) → values_of Unix s ≡ dir_values (dir_rank (top_of s)) ++ parts_of s
unfolding values_of
values_plain s =
    rw (list_plain s, values_append s (dir_part (top_of s) 0) (body_of s 0), dir_values_lem s (top_of s) 0, from_values (is_sep Unix) false s 0)

-- behind a separator stand the values of the segments there
pub values_seam : (u : List ℕ) (y : ℕ) (w : List ℕ) → (length u ≡ 0 → ⊥) → is_sep Unix y ≡ true → values_of Unix (u ++ y ∷ w) ≡ values_of Unix u ++ parts_of w
values_seam u y w h e =
    values_plain (u ++ y ∷ w)
    ∙ rw (ahead_seam Unix u y w h e, segments_seam (is_sep Unix) false u y w e, values_plain u, append_assoc)

values_root : (y : ℕ) (w : List ℕ) → is_sep Unix y ≡ true → values_of Unix (y ∷ w) ≡ valued 2 [] ∷ parts_of w
unfolding dir_values
values_root y w e = values_plain (y ∷ w) ∙ rw (root w, segments_sep (is_sep Unix) false y w e)
  where
    root : (w : List ℕ) → top_of (y ∷ w) ≡ Root
    root [] = ahead_one Unix y ∙ rw e
    root (z ∷ w) = ahead_two Unix y z w ∙ rw e

dot_none : parts_of (46 ∷ []) ≡ []
unfolding segments later lead sort_by
dot_none = refl

-- a path that ends in a separator, and another behind it
pub values_behind : (g : List ℕ) (y : ℕ) (w : List ℕ) → is_sep Unix y ≡ true → values_of Unix (g ++ (y ∷ []) ++ w) ≡ values_of Unix (g ++ (y ∷ [])) ++ parts_of w
values_behind [] y w e = rw (values_root y w e, values_root y [] e, segments_none (is_sep Unix) false)
values_behind (x ∷ g) y w e =
    let h : length (x ∷ g) ≡ 0 → ⊥ = λ z. omega arith in
    rw (append_assoc, values_seam (x ∷ g) y w h e, values_seam (x ∷ g) y [] h e, segments_none (is_sep Unix) false, append-nil)

-- ---- from an element on

-- p stands in the body of s, at or behind place lo, with the elements l behind it
pub record Cut (sep : ℕ → Bool) (v : Bool) (s : List ℕ) (lo : ℕ) (p : Element) (l : List Element) : Type 0 where
  pub low : lo ≤ p.start
  pub here : p ∷ l ≡ from sep v s p.start
  pub next : l ≡ from sep v s (p.start + p.len + 1)
  pub edge : p.start + p.len < length s → sep (get_or s (p.start + p.len) 0) ≡ true

unfoldable Cuts : (ℕ → Bool) → Bool → List ℕ → ℕ → List Element → Type 0
Cuts sep v s lo [] = Unit
Cuts sep v s lo (p ∷ l) = Cut sep v s lo p l × Cuts sep v s lo l

-- the last element of the body from i on ends at e
pub record Trail (sep : ℕ → Bool) (v : Bool) (s : List ℕ) (i e : ℕ) : Type 0 where
  pub low : i < e
  pub high : e ≤ length s
  pub edge : e < length s → sep (get_or s e 0) ≡ true
  pub none : from sep v s (e + 1) ≡ []

module _ (sep : ℕ → Bool) where
  lead_edge : (xs : List ℕ) → length (lead sep xs) < length xs → sep (get_or xs (length (lead sep xs)) 0) ≡ true
  unfolding lead
  lead_edge [] h = absurd (not-suc-le-zero h)
  lead_edge (x ∷ xs) h = split (sep x) (λ e. rw (e, e)) (λ e. rw e (lead_edge xs (omega (arith, rw e at h))))

  end_edge : (s : List ℕ) (i : ℕ) → end_of sep s i < length s → sep (get_or s (end_of sep s i) 0) ≡ true
  unfolding end_of
  end_edge s i h = rw (← get_or-drop i s (length (lead sep (drop i s))) 0) (lead_edge (drop i s) (omega (arith, length-drop i s)))

  module _ (v : Bool) (s : List ℕ) where
    put_cuts : (lo i e : ℕ) → lo ≤ i → i ≤ e → e ≡ end_of sep s i → Cuts sep v s lo (from sep v s (e + 1)) → (q : Option Kind) → sort_at v s i e ≡ q → Cuts sep v s lo (put q i (e - i) (from sep v s (e + 1)))
    unfolding Cuts
    put_cuts lo i e h k d u None f = u
    put_cuts lo i e h k d u (Some q) f =
        let n : i + (e - i) ≡ e = omega arith in
        (record { low = h; here = sym (step sep v s i ∙ rw (← d, f)); next = rw n; edge = rw (n, d) (end_edge s i) }, u)

    cuts_by : (n lo i : ℕ) → lo ≤ i → length s ≤ i + n → Cuts sep v s lo (from sep v s i)
    unfolding Cuts end_of
    cuts_by zero lo i h k = rw (from_end sep v s i (omega arith)) tt
    cuts_by (suc n) lo i h k =
        let l : i ≤ end_of sep s i = omega arith in
        rw (step sep v s i) (put_cuts lo i (end_of sep s i) h l refl (cuts_by n lo (end_of sep s i + 1) (omega arith) (omega arith)) (sort_at v s i (end_of sep s i)) refl)

    cuts : (i : ℕ) → Cuts sep v s i (from sep v s i)
    cuts i = cuts_by (length s) i i (omega arith) (omega arith)

    cut_nth : (lo : ℕ) (l : List Element) (f : ℕ) (p : Element) → Cuts sep v s lo l → nth_of l f ≡ Some p → Cut sep v s lo p (drop (suc f) l)
    unfolding Cuts nth_of
    cut_nth lo [] f p u e = let z : ◌≡◌ {A = ℕ} 0 1 = cc in absurd (omega arith)
    cut_nth lo (x ∷ l) zero p u e = let z : x ≡ p = cc in rw z at u.0
    cut_nth lo (x ∷ l) (suc f) p u e = cut_nth lo l f p u.1 e

    pub trail : (i : ℕ) → 0 < length (from sep v s i) → Trail sep v s i (end_or (nth_back_of (from sep v s i) 0))
    trail i h =
        let m : List Element = from sep v s i in
        let t = stands m (length m - 1) (omega arith) in
        let z : length m - 1 - 0 ≡ length m - 1 = omega arith in
        let g : nth_back_of m 0 ≡ Some t.element = back_nth m 0 h ∙ rw z t.is in
        let c = cut_nth i m (length m - 1) t.element (cuts i) t.is in
        let w = good_nth sep v s m (length m - 1) t.element (from_good sep v s i) t.is in
        let d : drop (suc (length m - 1)) m ≡ [] = drop_of_length-le m {i = suc (length m - 1)} (omega arith) in
        rw g (record { low = omega (arith, c.low, w.some); high = w.inside; edge = c.edge; none = sym c.next ∙ d })

    -- the elements from number f on are the body from the place of element f on, where no separator stands
    pub from_nth : (i f : ℕ) → f < length (from sep v s i) → drop f (from sep v s i) ≡ from sep v s (start_or (nth_of (from sep v s i) f))
    from_nth i f h =
        let t = stands (from sep v s i) f h in
        rw t.is (t.behind ∙ (cut_nth i (from sep v s i) f t.element (cuts i) t.is).here)

    pub clear_nth : (i f : ℕ) → f < length (from sep v s i) → sep (get_or s (start_or (nth_of (from sep v s i) f)) 0) ≡ false
    clear_nth i f h =
        let t = stands (from sep v s i) f h in
        let g = good_nth sep v s (from sep v s i) f t.element (from_good sep v s i) t.is in
        rw t.is (rw add-zero at (g.clear 0 g.some))

    -- what stands behind the last element has no values
    module _ (i e : ℕ) (t : Trail sep v s i e) where
      pub trail_none : segments sep v (drop (suc e) s) ≡ []
      unfolding values_in
      trail_none =
          let n : from sep v s (suc e) ≡ [] = rw (add-one e) at t.none in
          rw n at (sym (from_values sep v s (suc e)))

      pub segments_trail : segments sep v (bytes_at s i (e - i)) ≡ segments sep v (drop i s)
      segments_trail = split (ltb e (length s)) inner outer
        where
          inner : ltb e (length s) ≡ true → segments sep v (bytes_at s i (e - i)) ≡ segments sep v (drop i s)
          inner b =
              let h : e < length s = ltb-true e (length s) b in
              let n : i + (e - i) ≡ e = omega (arith, t.low) in
              let d : drop (e - i) (drop i s) ≡ get_or s e 0 ∷ drop (suc e) s = rw (drop-drop, n) (drop-cons s e 0 h) in
              let c : drop i s ≡ bytes_at s i (e - i) ++ get_or s e 0 ∷ drop (suc e) s = rw d at (sym (take-append-drop (e - i) (drop i s))) in
              sym (ap (segments sep v) c ∙ segments_seam sep v (bytes_at s i (e - i)) (get_or s e 0) (drop (suc e) s) (t.edge h) ∙ rw (trail_none, append-nil))

          outer : ltb e (length s) ≡ false → segments sep v (bytes_at s i (e - i)) ≡ segments sep v (drop i s)
          outer b = ap (segments sep v) (take_all (e - i) (drop i s) (omega (arith, length-drop i s, ltb-false e (length s) b)))

-- ---- the elements of a Unix path, by their number

pub values_drop : (s : List ℕ) (f : ℕ) (l : List Element) → drop f (values_in s l) ≡ values_in s (drop f l)
unfolding values_in
values_drop s zero l = refl
values_drop s (suc f) [] = refl
values_drop s (suc f) (x ∷ l) = values_drop s f l

-- element f of a list with the head h, where h is used up
module _ (sep : ℕ → Bool) (v : Bool) (s : List ℕ) (h : List Element) (f : ℕ) (k : length h ≤ f) (l : f < length (h ++ from sep v s 0)) where
  behind_inside : f - length h < length (from sep v s 0)
  behind_inside = omega (arith, length-append h (from sep v s 0))

  behind_from : drop f (h ++ from sep v s 0) ≡ from sep v s (start_or (nth_of (h ++ from sep v s 0) f))
  behind_from =
      let n : length h + (f - length h) ≡ f = omega arith in
      rw (nth_behind h (from sep v s 0) f k) (rw n at (drop-append-add h (from sep v s 0) (f - length h)) ∙ from_nth sep v s 0 (f - length h) behind_inside)

  behind_clear : sep (get_or s (start_or (nth_of (h ++ from sep v s 0) f)) 0) ≡ false
  behind_clear = rw (nth_behind h (from sep v s 0) f k) (clear_nth sep v s 0 (f - length h) behind_inside)

module _ (s : List ℕ) (f : ℕ) (k : 0 < f) (l : f < length (list_of Unix s)) where
  pub unix_from : drop f (list_of Unix s) ≡ body_of s (start_or (nth_of (list_of Unix s) f))
  unix_from = rw (list_plain s) (behind_from (is_sep Unix) false s (dir_part (top_of s) 0) f (omega (arith, dir_few (top_of s) 0)) (rw (list_plain s) at l))

  pub unix_clear : is_sep Unix (get_or s (start_or (nth_of (list_of Unix s) f)) 0) ≡ false
  unix_clear = rw (list_plain s) (behind_clear (is_sep Unix) false s (dir_part (top_of s) 0) f (omega (arith, dir_few (top_of s) 0)) (rw (list_plain s) at l))

  -- the last element of the list is the last from element f on
  pub unix_trail : Trail (is_sep Unix) false s (start_or (nth_of (list_of Unix s) f)) (end_or (nth_back_of (list_of Unix s) 0))
  unix_trail =
      let a : ℕ = start_or (nth_of (list_of Unix s) f) in
      let n : 0 < length (body_of s a) = omega (arith, ap length unix_from, length-drop f (list_of Unix s)) in
      let e : list_of Unix s ≡ take f (list_of Unix s) ++ body_of s a = rw unix_from at (sym (take-append-drop f (list_of Unix s))) in
      let g : nth_back_of (list_of Unix s) 0 ≡ nth_back_of (body_of s a) 0 = ap (λ (x : List Element). nth_back_of x 0) e ∙ back_behind (take f (list_of Unix s)) (body_of s a) 0 n in
      rw g (trail (is_sep Unix) false s a n)

-- no element is a prefix
pub unix_plain : (s : List ℕ) → is_prefix (nth_of (list_of Unix s) 0) ≡ false
unfolding start_of
unix_plain s = plain_first Unix s (start_of Unix s) (open_start Unix s) refl

-- ---- a path that is not empty has a component, and up to the end of its last it has all of them

sort_some : (n a b : ℕ) (w : List ℕ) (l : List Value) → (n ≡ 0 → ⊥) → (a ≡ 46 → n ≡ 1 → ⊥) → 0 < length (lay (sort_by false n a b) w l)
unfolding sort_by
sort_some n a b w l x y =
    rw (ne_eqb n 0 x)
    (split (eqb a 46)
    (λ e. rw (e, ne_eqb n 1 (y (eqb-true a 46 e)))
    (split (eqb n 2)
    (λ f. rw f (split (eqb b 46) (λ g. rw g (omega arith)) (λ g. rw g (omega arith))))
    (λ f. rw f (omega arith))))
    (λ e. rw e (omega arith)))

bare_says : (root dot : Bool) → dir_by root dot ≡ Bare → (root ≡ false) × (dot ≡ false)
bare_says true dot e = let z : ◌≡◌ {A = ℕ} 0 1 = cc in absurd (omega arith)
bare_says false true e = let z : ◌≡◌ {A = ℕ} 0 1 = cc in absurd (omega arith)
bare_says false false e = (refl, refl)

bare_some : (s : List ℕ) → (length s ≡ 0 → ⊥) → top_of s ≡ Bare → 0 < length (parts_of s)
unfolding segments lead
bare_some [] h e = absurd (h refl)
bare_some (x ∷ []) h e =
    let b = bare_says (eqb x 47) (eqb x 46) (sym (ahead_one Unix x) ∙ e) in
    rw b.0 (sort_some 1 x 0 _ _ (λ z. omega arith) (λ z _. eqb-false x 46 b.1 z))
bare_some (x ∷ y ∷ s) h e =
    let b = bare_says (eqb x 47) (cond (eqb x 46) (eqb y 47) false) (sym (ahead_two Unix x y s) ∙ e) in
    split (eqb y 47)
    (λ f. rw (b.0, f) (sort_some 1 x 0 _ _ (λ z. omega arith) (λ z _. false≢true (sym (rw (z, f) at b.1)))))
    (λ f. rw (b.0, f) (sort_some (suc (suc (length (lead (is_sep Unix) s)))) x y _ _ (λ z. omega arith) (λ _ z. omega arith)))

pub values_some : (s : List ℕ) → (length s ≡ 0 → ⊥) → 0 < length (values_of Unix s)
unfolding dir_values
values_some s h = rw (values_plain s) (go (top_of s) refl)
  where
    go : (d : Dir) → top_of s ≡ d → 0 < length (dir_values (dir_rank d) ++ parts_of s)
    go Bare e = bare_some s h e
    go Root e = omega arith
    go Implied e = omega arith
    go Dot e = omega arith

-- a head's element is the path's first byte, and that byte alone has it
ahead_first : (x : ℕ) (s : List ℕ) → (dot : Bool) × (top_of (x ∷ s) ≡ dir_by (is_sep Unix x) dot) × (dot ≡ true → x ≡ 46)
ahead_first x [] = (eqb x 46, ahead_one Unix x, eqb-true x 46)
ahead_first x (y ∷ s) = (cond (eqb x 46) (is_sep Unix y) false, ahead_two Unix x y s, λ h. split (eqb x 46) (λ f. eqb-true x 46 f) (λ f. absurd (false≢true (rw f at h))))

head_alone : (x : ℕ) (s : List ℕ) (root dot : Bool) → (root ≡ true → is_sep Unix x ≡ true) → (dot ≡ true → x ≡ 46) → 0 < length (dir_part (dir_by root dot) 0) → values_of Unix (take (end_or (nth_back_of (dir_part (dir_by root dot) 0) 0)) (x ∷ s)) ≡ dir_values (dir_rank (dir_by root dot))
unfolding nth_back_of nth_of dir_values
head_alone x s true dot f g h = values_root x [] (f refl) ∙ rw (segments_none (is_sep Unix) false)
head_alone x s false true f g h = rw (g refl) (values_plain (46 ∷ []) ∙ rw (ahead_one Unix 46) (ap (λ (l : List Value). valued 3 [] ∷ l) dot_none))
head_alone x s false false f g h = absurd (omega arith)

-- up to the end of the last element stands all
front_trail : (s : List ℕ) (e : ℕ) → Trail (is_sep Unix) false s 0 e → values_of Unix (take e s) ≡ values_of Unix s
front_trail s e t = split (ltb e (length s)) inner outer
  where
    inner : ltb e (length s) ≡ true → values_of Unix (take e s) ≡ values_of Unix s
    inner b =
        let h : e < length s = ltb-true e (length s) b in
        let n : length (take e s) ≡ 0 → ⊥ = λ z. omega (arith, length-take-le e s t.high, t.low) in
        sym (ap (values_of Unix) (split_at s e 0 h) ∙ values_seam (take e s) (get_or s e 0) (drop (suc e) s) n (t.edge h) ∙ rw (trail_none (is_sep Unix) false s 0 e t, append-nil))

    outer : ltb e (length s) ≡ false → values_of Unix (take e s) ≡ values_of Unix s
    outer b = ap (values_of Unix) (take_all e s (ltb-false e (length s) b))

front_head : (s : List ℕ) → body_of s 0 ≡ [] → 0 < length (list_of Unix s) → values_of Unix (take (end_or (nth_back_of (list_of Unix s) 0)) s) ≡ values_of Unix s
unfolding values_in
front_head [] e h = rw take-nil
front_head (x ∷ s) e h =
    let a = ahead_first x s in
    let n : parts_of (x ∷ s) ≡ [] = rw e at (sym (from_values (is_sep Unix) false (x ∷ s) 0)) in
    let l : list_of Unix (x ∷ s) ≡ dir_part (dir_by (is_sep Unix x) a.0) 0 = list_plain (x ∷ s) ∙ rw (e, a.1, append-nil) in
    let v : values_of Unix (x ∷ s) ≡ dir_values (dir_rank (dir_by (is_sep Unix x) a.0)) = values_plain (x ∷ s) ∙ rw (n, a.1, append-nil) in
    rw (l, v) (head_alone x s (is_sep Unix x) a.0 (λ z. z) a.2 (rw l at h))

pub values_front : (s : List ℕ) → 0 < length (list_of Unix s) → values_of Unix (take (end_or (nth_back_of (list_of Unix s) 0)) s) ≡ values_of Unix s
values_front s h = go (body_of s 0) refl
  where
    go : (m : List Element) → body_of s 0 ≡ m → values_of Unix (take (end_or (nth_back_of (list_of Unix s) 0)) s) ≡ values_of Unix s
    go [] e = front_head s e h
    go (x ∷ m) e =
        let n : 0 < length (body_of s 0) = rw e (omega arith) in
        let g : nth_back_of (list_of Unix s) 0 ≡ nth_back_of (body_of s 0) 0 = rw (list_plain s) (back_behind (dir_part (top_of s) 0) (body_of s 0) 0 n) in
        rw g (front_trail s (end_or (nth_back_of (body_of s 0) 0)) (trail (is_sep Unix) false s 0 n))
