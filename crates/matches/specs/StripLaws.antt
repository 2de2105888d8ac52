-- Laws of strip: where a path's list ends, the rest behind a base, and one law a way through each function.
use Rattle.std.specs.Prelude.{ℕ, zero, suc, ◌+◌, ◌-◌, ◌≤◌, ◌≡◌, refl, List, [], ◌∷◌, ◌++◌, Bool, take, drop, eqb, ltb, Option, Some, None}
use Rattle.std.specs.Int.{w64}
use Rattle.std.proofs.Common.{Fits, ap, ◌∙◌, append-nil, append_assoc, length-append, length-drop}
use native.Mathlib.Omega.{arith}
use Rattle.std.proofs.Math.Path.{sym}
use Rattle.std.proofs.Math.Bool.{true, false, cond}
use Rattle.std.proofs.lemmas.Bool.{false≢true}
use Rattle.std.proofs.Math.ListN.{length}
use Rattle.std.proofs.Math.Seq.{take-length, length-take-le}
use borrow.Author.Tests.{ne_eqb, eqb-true, eqb-false, lt-ltb, le-ltb, ltb-false}
use Rattle.octets.specs.Class.{is_sep}
use Rattle.octets.specs.Laws.{split}
use Rattle.octets.specs.declared.Seps.{Seps}
use Rattle.answers.specs.declared.Reply.TheVariants.{Absent}
use Rattle.answers.specs.declared.View.{View}
use Rattle.answers.specs.Reply.{refused_view, seen}
use Rattle.answers.specs.Outcome.{told}
use Rattle.answers.specs.Laws.{absent, done}
use Rattle.prefixes.specs.declared.Prefix.{Prefix}
use Rattle.prefixes.specs.Prefix.{end_of_prefix, on_disk}
use Rattle.parts.specs.declared.Element.{Element}
use Rattle.parts.specs.declared.Part.{Part}
use Rattle.parts.specs.Body.{dots}
use Rattle.parts.specs.Elements.{nth_of, nth_back_of, end_or, Upto}
use Rattle.parts.specs.Steps.{lift, FirstAt, within, LastAt}
use Rattle.parts.specs.Laws.{first_none, first_found, last_none, last_found, from_upto, upto_nth, upto_append, nth_inside, back_last, back_nth}
use Rattle.components.specs.declared.Dir.{Dir}
use Rattle.components.specs.declared.Dir.TheVariants.{Bare, Root, Implied, Dot}
use Rattle.components.specs.declared.Start.{Start}
use Rattle.components.specs.List.{dir_len, start_of, prefix_part, dir_part, head_list, body_list, whole_of, list_of}
use Rattle.components.specs.Leaves.{OpenAt}
use Rattle.components.specs.Laws.{whole_list}
use Rattle.cursors.specs.declared.Span.{Span}
use Rattle.cursors.specs.Rest.{span, view_of, is_prefix, left_end, empty_at, is_bare, dotted, behind_dot, rest_of}
use Rattle.order.specs.Values.{Value, values_of}
use Rattle.matches.specs.declared.After.{After}
use Rattle.matches.specs.declared.After.TheVariants.{Off, Head, Body}
use Rattle.matches.specs.Match.{same, starts_with, starts_of}
use Rattle.matches.specs.Strip.{strip_of}
use Rattle.matches.specs.Laws.{by_prefix, values_long, prefix_first, starts_not, after_head, after_body}
use Rattle.matches.specs.Leaves.{AfterAt, last_of, LastEnd}

-- the body as the steps back tell it
body_within : (g : Start) (s : List ℕ) → body_list g s ≡ within (is_sep g.seps) (dots g.seps) s g.at (length s)
unfolding body_list within
body_within g s = rw (take-length s)

upto_more : (m n : ℕ) (l : List Element) → m ≤ n → Upto m l → Upto n l
unfolding Upto
upto_more m n [] h u = tt
upto_more m n (e ∷ l) h u = (omega (arith, u.0), upto_more m n l h u.1)

bare_is : (d : Dir) → is_bare d ≡ true → d ≡ Bare
bare_is Bare e = refl
bare_is Root e = absurd (false≢true e)
bare_is Implied e = absurd (false≢true e)
bare_is Dot e = absurd (false≢true e)

-- a path with a dot that belongs to no component has a prefix, and nothing behind it in its head
module _ (s : List ℕ) (g : Start) (d : dotted g s ≡ true) where
  dotted_prefix : {A : Type 0} → ((p : Prefix) → g.prefix ≡ Some p → A) → A
  unfolding dotted
  dotted_prefix f = by_prefix g.prefix (λ x. absurd (false≢true (rw x at d))) f

  dotted_dir : g.dir ≡ Bare
  unfolding dotted
  dotted_dir =
      split (on_disk g.prefix)
      (λ x. split (is_bare g.dir) (λ y. bare_is g.dir y) (λ y. absurd (false≢true (rw (x, y) at d))))
      (λ x. absurd (false≢true (rw x at d)))

module _ (k : Seps) (s : List ℕ) (g : Start) (o : OpenAt k s g) where
  open_end : g.end ≡ end_of_prefix g.prefix
  unfolding start_of
  open_end = rw o.is

  open_at : g.at ≡ g.end + dir_len g.dir
  unfolding start_of
  open_at = rw o.is

  -- a head's elements end where the body starts
  head_upto_by : (p : Option Prefix) (d : Dir) (e : ℕ) → Upto (e + dir_len d) (prefix_part p e ++ dir_part d e)
  unfolding Upto
  head_upto_by None Bare e = tt
  head_upto_by None Root e = (omega arith, tt)
  head_upto_by None Implied e = (omega arith, tt)
  head_upto_by None Dot e = (omega arith, tt)
  head_upto_by (Some p) Bare e = (omega arith, tt)
  head_upto_by (Some p) Root e = (omega arith, (omega arith, tt))
  head_upto_by (Some p) Implied e = (omega arith, (omega arith, tt))
  head_upto_by (Some p) Dot e = (omega arith, (omega arith, tt))

  head_upto : Upto g.at (head_list g)
  unfolding head_list
  head_upto = rw open_at (head_upto_by g.prefix g.dir g.end)

  head_last_by : (p : Option Prefix) (d : Dir) (e : ℕ) → e ≡ end_of_prefix p → end_or (nth_back_of (prefix_part p e ++ dir_part d e) 0) ≡ e + dir_len d
  unfolding nth_back_of nth_of
  head_last_by None Bare e h = omega (arith, h)
  head_last_by None Root e h = omega arith
  head_last_by None Implied e h = omega arith
  head_last_by None Dot e h = omega arith
  head_last_by (Some p) Bare e h = omega arith
  head_last_by (Some p) Root e h = omega arith
  head_last_by (Some p) Implied e h = omega arith
  head_last_by (Some p) Dot e h = omega arith

  head_last : end_or (nth_back_of (head_list g) 0) ≡ g.at
  unfolding head_list
  head_last = head_last_by g.prefix g.dir g.end open_end ∙ sym open_at

  -- `last_end`: p is what `last` told of the body
  module _ (p : Option Part) (f : LastAt (is_sep g.seps) (dots g.seps) s g.at (length s) p) where
    module _ (n : p ≡ None) where
      bare_list : list_of k s ≡ head_list g
      unfolding whole_of
      bare_list = sym (whole_list k s g o) ∙ rw (body_within g s, last_none f n) (append-nil (head_list g))

      bare_upto : (r : ℕ) → g.at ≤ r → Upto r (list_of k s)
      bare_upto r h = rw bare_list (upto_more g.at r (head_list g) h head_upto)

      module _ (b : Bool) (x : b ≡ dotted g s) where
        pub last_plain : b ≡ false → LastEnd k s g g.at
        unfolding last_of
        last_plain y = record { is = rw (← x, y, bare_list) (sym head_last); low = omega arith; all = bare_upto g.at (omega arith) }

        pub last_dot_lem : b ≡ true → LastEnd k s g (g.at + 1)
        unfolding last_of head_list nth_of
        last_dot_lem y =
            let d : dotted g s ≡ true = sym x ∙ y in
            let v : g.dir ≡ Bare = dotted_dir s g d in
            let a : g.at ≡ g.end = open_at ∙ rw v (omega arith) in
            dotted_prefix s g d
            (λ q u. record { is = rw (d, bare_list, u, v) (omega arith); low = omega arith; all = bare_upto (g.at + 1) (omega arith) })

      -- as `head_end` tells it
      pub last_bare : (r : ℕ) → r ≡ g.at + cond (dotted g s) 1 0 → LastEnd k s g r
      last_bare r e =
          split (dotted g s)
          (λ y. let z : r ≡ g.at + 1 = e ∙ rw y in rw z (last_dot_lem (dotted g s) refl y))
          (λ y. let z : r ≡ g.at = e ∙ rw y (omega arith) in rw z (last_plain (dotted g s) refl y))

    module _ (z : Part) (n : p ≡ Some z) where
      -- what stands before the last part
      abbrev before : List Element
      before = head_list g ++ within (is_sep g.seps) (dots g.seps) s g.at z.start

      full_list : list_of k s ≡ before ++ (lift z ∷ [])
      unfolding whole_of
      full_list = sym (whole_list k s g o) ∙ rw (body_within g s, (last_found f n).is) (sym (append_assoc (head_list g) _ _))

      full_long : length (list_of k s) ≡ length (head_list g) + length (within (is_sep g.seps) (dots g.seps) s g.at z.start) + 1
      full_long = ap length full_list ∙ length-append before (lift z ∷ []) ∙ rw (length-append (head_list g) (within (is_sep g.seps) (dots g.seps) s g.at z.start))

      not_alone : dotted g s ≡ true → 1 ≡ length (list_of k s) → ⊥
      unfolding head_list
      not_alone d u = dotted_prefix s g d (λ q v. let w : length (head_list g) ≡ 1 + length (dir_part g.dir g.end) = rw v (omega arith) in omega (arith, full_long))

      last_end : end_or (nth_back_of (list_of k s) 0) ≡ z.start + z.len
      last_end = rw (back_last (list_of k s) before (lift z) full_list)

      within_upto : Upto z.start (within (is_sep g.seps) (dots g.seps) s g.at z.start)
      unfolding within
      within_upto =
          let t = last_found f n in
          let c : length (take z.start s) ≡ z.start = length-take-le z.start s (omega (arith, t.high, t.inside)) in
          rw c at (from_upto (is_sep g.seps) (dots g.seps) (take z.start s) g.at (omega (arith, t.low)))

      pub last_found_end : LastEnd k s g (z.start + z.len)
      unfolding last_of Upto
      last_found_end =
          let t = last_found f n in
          record {
            is = split (dotted g s) (λ d. rw (d, ne_eqb 1 (length (list_of k s)) (not_alone d)) (sym last_end)) (λ d. rw d (sym last_end));
            low = omega (arith, t.low);
            all =
                rw full_list
                (upto_append (z.start + z.len) before (lift z ∷ [])
                (upto_append (z.start + z.len) (head_list g) _
                (upto_more g.at (z.start + z.len) (head_list g) (omega (arith, t.low)) head_upto)
                (upto_more z.start (z.start + z.len) (within (is_sep g.seps) (dots g.seps) s g.at z.start) (omega arith) within_upto))
                (omega arith, tt));
          }

      pub last_fits : Fits w64 (z.start + z.len)
      last_fits = let t = last_found f n in record { fits = omega arith }

pub ruleset lasts = (last_bare, last_found_end, last_fits)

-- ---- the rest after f elements of l
nth_drop : (l : List Element) (f : ℕ) → nth_of l f ≡ nth_of (drop f l) 0
unfolding nth_of
nth_drop [] zero = refl
nth_drop [] (suc f) = refl
nth_drop (e ∷ l) zero = refl
nth_drop (e ∷ l) (suc f) = nth_drop l f

-- with nothing left it stands at the end of the last element
all_empty : (l : List Element) (f : ℕ) → f ≡ length l → (f ≡ 0 → ⊥) → empty_at l f ≡ end_or (nth_back_of l 0)
unfolding empty_at
all_empty l f e n =
    let z : length l - 1 - 0 ≡ f - 1 = omega arith in
    rw (ne_eqb f 0 n) (sym (ap end_or (back_nth l 0 (omega arith)) ∙ rw z))

none_last : (l : List Element) → 0 ≡ length l → end_or (nth_back_of l 0) ≡ 0
unfolding nth_back_of
none_last [] e = refl
none_last (p ∷ l) e = absurd (omega arith)

empty_last : (l : List Element) (f : ℕ) → f ≡ length l → empty_at l f ≡ end_or (nth_back_of l 0)
unfolding empty_at
empty_last l f e = split (eqb f 0) (λ y. rw y (sym (none_last l (sym (eqb-true f 0 y) ∙ e)))) (λ y. all_empty l f e (eqb-false f 0 y))

module _ (d : Bool) (l : List Element) (f : ℕ) where
  -- nothing, or nothing but the prefix, was taken: a is both the left end and where nothing would be left
  rest_head : (a e : ℕ) → f ≤ 1 → f ≤ length l → a ≡ left_end l f → a ≡ empty_at l f → e ≡ last_of d l → span a e ≡ rest_of d l f 0
  unfolding rest_of behind_dot last_of
  rest_head a e g h i j w =
      let n : f + 0 ≡ f = omega arith in
      rw (lt-ltb f 2 (omega arith), n)
      (split (cond d (eqb 1 (length l)) false)
      (λ x. rw (x, ← i, w) (rw x))
      (λ x. split (ltb f (length l))
      (λ y. rw (x, y, ← i, w) (rw x))
      (λ y. let c : f ≡ length l = omega (arith, ltb-false f (length l) y) in
      rw (x, y, ← j) (let z : e ≡ a = w ∙ rw x (sym (empty_last l f c) ∙ sym j) in rw z))))

  -- more was taken, so no dot is left over
  module _ (h : f ≤ length l) (n : f ≡ 0 → ⊥) (b : f ≡ 1 → is_prefix (nth_of l 0) ≡ false) (g : d ≡ true → is_prefix (nth_of l 0) ≡ true) where
    no_dot : cond d (eqb 1 (length l)) false ≡ false
    no_dot =
        split d
        (λ x. split (eqb 1 (length l))
        (λ y. absurd (false≢true (sym (b (omega (arith, eqb-true 1 (length l) y, n))) ∙ g x)))
        (λ y. rw (x, y)))
        (λ x. rw x)

    no_behind : behind_dot d (length l) f 0 ≡ false
    unfolding behind_dot
    no_behind = split (ltb f 2) (λ w. rw w no_dot) (λ w. rw w (split d (λ x. rw x) (λ x. rw x)))

    last_body : last_of d l ≡ end_or (nth_back_of l 0)
    unfolding last_of
    last_body = rw no_dot

    rest_body : (z : Part) (e : ℕ) → nth_of l f ≡ Some (lift z) → e ≡ last_of d l → span z.start e ≡ rest_of d l f 0
    unfolding rest_of left_end
    rest_body z e x w =
        let c : f + 0 ≡ f = omega arith in
        rw (no_behind, c, lt-ltb f (length l) (nth_inside l f x), ne_eqb f 0 n, not_prefix, x, w, last_body)
      where
        not_prefix : cond (eqb f 1) (is_prefix (nth_of l 0)) false ≡ false
        not_prefix = split (eqb f 1) (λ y. rw (y, b (eqb-true f 1 y))) (λ y. rw y)

    rest_spent : (e : ℕ) → f ≡ length l → e ≡ last_of d l → span e e ≡ rest_of d l f 0
    unfolding rest_of
    rest_spent e x w =
        let c : f + 0 ≡ f = omega arith in
        rw (no_behind, c, le-ltb f (length l) (omega arith), empty_last l f x, w, last_body)

starts_long : (l m : List Value) → starts_with l m ≡ true → length m ≤ length l
unfolding starts_with
starts_long l [] e = omega arith
starts_long [] (v ∷ m) e = absurd (false≢true e)
starts_long (u ∷ l) (v ∷ m) e =
    split (same u v) (λ x. omega (arith, starts_long l m (rw x at e))) (λ x. absurd (false≢true (rw x at e)))

-- `strip_prefix`: a is what `follow` told
module _ (k : Seps) (s : List ℕ) (g : Start) (o : OpenAt k s g) (t : List ℕ) (a : After) (f : AfterAt k s g t a) where
  pub strip_off : (r : View) → a ≡ Off → r ≡ refused_view Absent → r ≡ told refused_view (strip_of k s t)
  unfolding strip_of
  strip_off r e z = absent refused_view r (starts_of k s t) z _ (sym (starts_not k s g t a f e))

  fewer : starts_of k s t ≡ true → length (list_of k t) ≤ length (list_of k s)
  unfolding starts_of
  fewer e = omega (arith, starts_long (values_of k s) (values_of k t) e, values_long k s, values_long k t)

  dot_prefixed : dotted g s ≡ true → is_prefix (nth_of (list_of k s) 0) ≡ true
  dot_prefixed d = dotted_prefix s g d (λ c v. rw (prefix_first k s g o c v))

  strip_is : (w : Span) → starts_of k s t ≡ true → w ≡ rest_of (dotted g s) (list_of k s) (length (list_of k t)) 0 → view_of w ≡ told refused_view (strip_of k s t)
  unfolding strip_of
  strip_is w z e = done refused_view (view_of w) (starts_of k s t) _ (rw (e, o.is)) z

  module _ (e : ℕ) (l : LastEnd k s g e) where
    module _ (x : ℕ) (u : a ≡ Head x) where
      pub head_room : x ≤ e
      head_room = omega (arith, (after_head k s g t a f x u).low, l.low)

      pub strip_head : seen x (e - x) ≡ told refused_view (strip_of k s t)
      strip_head =
          let w = after_head k s g t a f x u in
          strip_is (span x e) w.starts (rest_head (dotted g s) (list_of k s) (length (list_of k t)) x e w.few (fewer w.starts) w.is w.spent l.is)

    module _ (x : ℕ) (u : a ≡ Body x) (p : Option Part) (q : FirstAt (is_sep g.seps) (dots g.seps) s x p) where
      module _ (z : Part) (n : p ≡ Some z) where
        next : nth_of (list_of k s) (length (list_of k t)) ≡ Some (lift z)
        unfolding nth_of
        next = nth_drop (list_of k s) (length (list_of k t)) ∙ rw ((after_body k s g t a f x u).left, (first_found q n).is)

        pub body_room : z.start ≤ e
        body_room = omega (arith, rw next at (upto_nth e (list_of k s) (length (list_of k t)) l.all))

        pub strip_body : seen z.start (e - z.start) ≡ told refused_view (strip_of k s t)
        strip_body =
            let w = after_body k s g t a f x u in
            strip_is (span z.start e) w.starts (rest_body (dotted g s) (list_of k s) (length (list_of k t)) (fewer w.starts) w.some w.beyond dot_prefixed z e next l.is)

      pub strip_all : p ≡ None → seen e 0 ≡ told refused_view (strip_of k s t)
      strip_all n =
          let w = after_body k s g t a f x u in
          let c : length (list_of k t) ≡ length (list_of k s) = omega (arith, fewer w.starts, length-drop (length (list_of k t)) (list_of k s), ap length (w.left ∙ first_none q n)) in
          let j : 0 ≡ e - e = omega arith in
          rw j (strip_is (span e e) w.starts (rest_spent (dotted g s) (list_of k s) (length (list_of k t)) (fewer w.starts) w.some w.beyond dot_prefixed e c l.is))

pub ruleset strips = (strip_off, head_room, strip_head, body_room, strip_body, strip_all)
