-- Laws of the rest that the ends alone tell: a part that was found leaves the parts from its place on, and these are behind the front.
use Prim.Native.Nat.{ℕ, zero, suc, ◌+◌, ◌-◌, ◌<◌, ◌≤◌}
use Rattle.std.specs.Int.{w64}
use Rattle.std.proofs.Common.{Fits, arith, not-suc-le-zero, le_of_suc-le-suc, ◌∙◌, take-append-drop, length-take-le, lt-ltb, le-ltb, ne_eqb}
use Rattle.std.proofs.Math.Numerals.{add-one}
use Rattle.std.specs.Prelude.{◌≡◌, Bool, true, false, length, take, Option, Some, None}
use Rattle.std.proofs.Math.Path.{refl, sym, ap}
use mathlib.Core.List.{List, [], ◌∷◌, ◌++◌, append_assoc}
use Rattle.std.proofs.lemmas.Bool.{false≢true}
use Rattle.std.proofs.Math.ListN.{drop, length-append}
use Rattle.std.proofs.Math.Seq.{take-length, drop-drop}
use Rattle.octets.specs.Class.{is_sep}
use Rattle.octets.specs.Segment.{lead}
use Rattle.octets.specs.Laws.{split}
use Rattle.octets.specs.declared.Seps.{Seps}
use Rattle.prefixes.specs.Prefix.{on_disk}
use Rattle.parts.specs.declared.Element.{Element}
use Rattle.parts.specs.declared.Part.{Part}
use Rattle.parts.specs.Body.{sort_of, put, rest, from, dots}
use Rattle.parts.specs.Elements.{nth_of, nth_back_of, start_or, end_or}
use Rattle.parts.specs.Steps.{lift, raised, within, LastAt}
use Rattle.parts.specs.Laws.{nth_inside, back_behind, back_inside_of, last_found}
use Rattle.components.specs.declared.Start.{Start}
use Rattle.components.specs.declared.Body.{Body}
use Rattle.components.specs.declared.opened.Opened.{Opened}
use Rattle.components.specs.List.{prefix_part, dir_part, head_list, body_list, whole_of, list_of, start_of}
use Rattle.components.specs.Leaves.{OpenAt, BodyAt, CountAt}
use Rattle.components.specs.Laws.{whole_list, whole_body, head_few, open_start, last_part, last_behind}
use Rattle.cursors.specs.declared.Span.{Span}
use Rattle.cursors.specs.Rest.{span, left_end, right_end, dotted, behind_dot, rest_of, rest_asked}
use Rattle.cursors.specs.Leaves.{In, SeenAt}
use Rattle.cursors.specs.Laws.{left_zero, left_later, dot_far, dot_plain, back_small}
use Rattle.parts.specs.declared.Kind.{Kind}
use Rattle.prefixes.specs.declared.Prefix.{Prefix}

-- ---- what stands from an element's own place on

module _ (sep : ℕ → Bool) (v : Bool) (s : List ℕ) where
  -- l and each of its ends is what stands from its first element's place on
  unfoldable Onward : List Element → Type 0
  Onward [] = Unit
  Onward (p ∷ l) = (p ∷ l ≡ from sep v s p.start) × Onward l

  put_onward : (i : ℕ) (xs : List ℕ) → drop i s ≡ xs → (q : Option Kind) → sort_of v (lead sep xs) ≡ q → Onward (rest sep v i xs) → Onward (put q i (length (lead sep xs)) (rest sep v i xs))
  unfolding Onward from
  put_onward i xs e None g u = u
  put_onward i xs e (Some q) g u = (rw (e, g), u)

  rest_onward : (i : ℕ) (xs : List ℕ) → drop i s ≡ xs → Onward (rest sep v i xs)
  unfolding rest Onward
  rest_onward i [] e = tt
  rest_onward i (x ∷ xs) e =
      let d : drop (suc i) s ≡ xs = rw (← add-one i, ← drop-drop 1 i s) (ap (drop 1) e) in
      split (sep x)
      (λ f. rw f (put_onward (suc i) xs d (sort_of v (lead sep xs)) refl (rest_onward (suc i) xs d)))
      (λ f. rw f (rest_onward (suc i) xs d))

  from_onward : (i : ℕ) → Onward (from sep v s i)
  unfolding from
  from_onward i = put_onward i (drop i s) refl (sort_of v (lead sep (drop i s))) refl (rest_onward i (drop i s) refl)

  nth_onward : (l : List Element) (f : ℕ) → Onward l → f < length l → drop f l ≡ from sep v s (start_or (nth_of l f))
  unfolding Onward nth_of
  nth_onward [] f u h = absurd (not-suc-le-zero h)
  nth_onward (p ∷ l) zero u h = u.0
  nth_onward (p ∷ l) (suc f) u h = nth_onward l f u.1 (le_of_suc-le-suc h)

-- `rest_between`
pub head_low : (h : Start) (n f : ℕ) → CountAt (head_list h) n → 2 ≤ f → n ≤ f
head_low h n f c g = omega (arith, head_few h, c.is)

far : (d : Bool) (n f b : ℕ) → 2 ≤ f → behind_dot d n f b ≡ false
far d n f b g = split d (λ t. sym (dot_far d n f b t g)) (λ t. sym (dot_plain d n f b t))

module _ (h : Start) (s : List ℕ) (f b n : ℕ) (c : CountAt (head_list h) n) (g : 2 ≤ f) (p : Option Part) (e : raised p ≡ nth_of (from (is_sep h.seps) (dots h.seps) s h.at) (f - n)) (x : Part) (i : p ≡ Some x) (q : Option Part) (d : raised q ≡ nth_back_of (within (is_sep h.seps) (dots h.seps) s x.start (length s)) b) (y : Part) (j : q ≡ Some y) where
  abbrev all : List Element
  all = from (is_sep h.seps) (dots h.seps) s h.at

  abbrev tail : List Element
  tail = from (is_sep h.seps) (dots h.seps) s x.start

  here : nth_of all (f - n) ≡ Some (lift x)
  here = sym e ∙ rw i

  low : f - n < length all
  low = nth_inside all (f - n) {p = lift x} here

  cut : all ≡ take (f - n) all ++ tail
  cut = sym (take-append-drop (f - n) all) ∙ ap (λ (m : List Element). take (f - n) all ++ m) (nth_onward (is_sep h.seps) (dots h.seps) s all (f - n) (from_onward (is_sep h.seps) (dots h.seps) s h.at) low ∙ rw here)

  whole : whole_of h s ≡ (head_list h ++ take (f - n) all) ++ tail
  unfolding whole_of body_list
  whole = ap (λ (m : List Element). head_list h ++ m) cut ∙ sym (append_assoc (head_list h) (take (f - n) all) tail)

  there : nth_back_of tail b ≡ Some (lift y)
  unfolding within
  there = rw (take-length s, j) at (sym d)

  below : b < length tail
  below = back_inside_of tail b {p = lift y} there

  long : length (whole_of h s) ≡ f + length tail
  long = rw whole (simp length-append (omega (arith, c.is, low, length-take-le (f - n) all (omega (arith, low)), head_low h n f c g)))

  right : right_end (whole_of h s) b ≡ y.start + y.len
  right = rw (whole, back_behind (head_list h ++ take (f - n) all) tail b below, there)

  left : x.start ≡ left_end (whole_of h s) f
  left = left_later (whole_of h s) f (Some (lift x)) x.start (λ z. omega arith) (λ z. omega arith) (whole_body h s n c f p (Some (lift x)) (head_low h n f c g) e (rw i)) refl

  pub between_fits : In h s → Fits w64 (y.start + y.len)
  between_fits w = record { fits = rw (← right) (omega (arith, back_small h s (nth_back_of (whole_of h s) b) b refl w)) }

  pub between_is : SeenAt h s f b (Some (span x.start (y.start + y.len)))
  unfolding rest_of
  between_is = record { is = (rw (far (dotted h s) (length (whole_of h s)) f b g, ← left, right) (simp (lt-ltb (f + b) (length (whole_of h s)) (omega (arith, long, below)))), omega (arith, long, below)) }

-- `rest_back`
pub back_is : (h : Start) (s : List ℕ) (b : ℕ) (i : Option Element) (e : Element) (z : ℕ) → dotted h s ≡ false → i ≡ nth_back_of (whole_of h s) b → i ≡ Some e → z ≡ end_or i → SeenAt h s 0 b (Some (span 0 z))
unfolding rest_of
back_is h s b i e z d g j m =
    let l = back_inside_of (whole_of h s) b {p = e} (sym g ∙ j) in
    record { is = (rw (m, g, ← dot_plain (dotted h s) (length (whole_of h s)) 0 b d, ← left_zero (whole_of h s) 0 refl) (simp (lt-ltb (0 + b) (length (whole_of h s)) (omega (arith, l)))), omega (arith, l)) }

-- `rest_second`
module _ (h : Start) (s : List ℕ) (b : ℕ) (p : Option Part) (e : raised p ≡ nth_back_of (within (is_sep h.seps) (dots h.seps) s h.at (length s)) b) (x : Part) (i : p ≡ Some x) where
  abbrev parts : List Element
  parts = from (is_sep h.seps) (dots h.seps) s h.at

  found : nth_back_of parts b ≡ Some (lift x)
  unfolding within
  found = rw (take-length s, i) at (sym e)

  inside : b < length parts
  inside = back_inside_of parts b {p = lift x} found

  last_is : Some (lift x) ≡ nth_back_of (whole_of h s) b
  unfolding whole_of body_list
  last_is = sym (back_behind (head_list h) parts b inside ∙ found)

  pub second_fits : In h s → Fits w64 (x.start + x.len)
  second_fits w = record { fits = omega (arith, back_small h s (Some (lift x)) b last_is w) }

  module _ (n : ℕ) (c : CountAt (head_list h) n) (z : n ≡ 0 → ⊥) where
    far_in : 1 + b < length (whole_of h s)
    unfolding whole_of body_list
    far_in = omega (arith, inside, c.is, z, length-append (head_list h) parts)

    pub second_is : (a : ℕ) → dotted h s ≡ false → a ≡ left_end (whole_of h s) 1 → SeenAt h s 1 b (Some (span a (x.start + x.len)))
    unfolding rest_of
    second_is a d g = record { is = (rw (← dot_plain (dotted h s) (length (whole_of h s)) 1 b d, g, ← last_is) (simp (lt-ltb (1 + b) (length (whole_of h s)) far_in)), omega (arith, far_in)) }

-- `rest_first`, `rest_seen`, `rest_in`
module _ (h : Start) (s : List ℕ) (r : Bool) (e : r ≡ dotted h s) where
  pub plain_is : r ≡ false → dotted h s ≡ false
  plain_is y = sym e ∙ y

module _ (h : Start) (s : List ℕ) (f b : ℕ) (r : Option Span) where
  pub seen_none : f ≡ 0 → SeenAt h s 0 b r → SeenAt h s f b r
  seen_none z t = rw z t

  pub seen_one : f ≤ 1 → (f ≡ 0 → ⊥) → SeenAt h s 1 b r → SeenAt h s f b r
  seen_one m z t = let e : f ≡ 1 = omega arith in rw e t

pub seen_is : (k : Seps) (s : List ℕ) (h : Start) (f b : ℕ) (r : Option Span) (w : Span) → OpenAt k s h → SeenAt h s f b r → r ≡ Some w → Some w ≡ rest_asked k s f b
unfolding rest_asked
seen_is k s h f b r w o t g =
    let u = rw g at t.is in
    rw (← whole_list k s h o) (simp (le-ltb (length (whole_of h s)) (f + b) u.1) (rw (u.0, ← o.is)))

-- `rest_whole`: where a part stands behind the head, a drive with its dot is not all there is
disk_some : (p : Option Prefix) (e : ℕ) → on_disk p ≡ true → 1 ≤ length (prefix_part p e)
disk_some None e y = absurd (false≢true y)
disk_some (Some p) e y = omega arith

dotted_head : (h : Start) (s : List ℕ) → dotted h s ≡ true → 1 ≤ length (head_list h)
unfolding dotted head_list
dotted_head h s y =
    split (on_disk h.prefix)
    (λ t. omega (arith, length-append (prefix_part h.prefix h.end) (dir_part h.dir h.end), disk_some h.prefix h.end t))
    (λ t. absurd (false≢true (rw t at y)))

dot_over_all : (d : Bool) (n f b : ℕ) → f < 2 → (b + 1 ≡ n → ⊥) → behind_dot d n f b ≡ false
unfolding behind_dot
dot_over_all d n f b h z = split d (λ t. rw (t, lt-ltb f 2 h) (simp (ne_eqb (b + 1) n z))) (λ t. rw t)

ends_last : (d : Bool) (l : List Element) (b : ℕ) → behind_dot d (length l) 0 b ≡ false → b < length l → span 0 (right_end l b) ≡ rest_of d l 0 b
unfolding rest_of
ends_last d l b e h = rw (e, ← left_zero l 0 refl) (simp (lt-ltb (0 + b) (length l) (omega arith)))

module _ (k : Seps) (s : List ℕ) (w : Body) (o : BodyAt k s w) (p : Option Part) (f : LastAt (is_sep w.seps) (dots w.seps) s w.at (length s) p) (q : Part) (g : p ≡ Some q) where
  last_here : nth_back_of (list_of k s) 0 ≡ Some (lift q)
  last_here = sym (last_part k s w o p f q (Some (lift q)) g refl)

  not_alone : behind_dot (dotted (start_of k s) s) (length (list_of k s)) 0 0 ≡ false
  not_alone =
      split (dotted (start_of k s) s)
      (λ t. dot_over_all _ (length (list_of k s)) 0 0 (omega arith) (λ z. omega (arith, dotted_head (start_of k s) s t, last_behind k s w o p f q g)))
      (λ t. sym (dot_plain _ (length (list_of k s)) 0 0 t))

  all_seen : SeenAt (start_of k s) s 0 0 (Some (span 0 (q.start + q.len)))
  unfolding list_of
  all_seen = record { is = (rw (← ends_last _ (list_of k s) 0 not_alone (omega (arith, last_behind k s w o p f q g)), last_here), omega arith) }

  pub all_fits : Fits w64 (q.start + q.len)
  all_fits = let t = last_found f g in record { fits = omega (arith, t.high, t.inside, t.room) }

  pub all_is : Some (span 0 (q.start + q.len)) ≡ rest_asked k s 0 0
  all_is = seen_is k s (start_of k s) 0 0 _ _ (open_start k s) all_seen refl

-- `rest_in`
pub rest_zero : (k : Seps) (s : List ℕ) (f b : ℕ) (r : Option Span) → f ≡ 0 → b ≡ 0 → r ≡ rest_asked k s 0 0 → r ≡ rest_asked k s f b
rest_zero k s f b r z y e = rw (z, y) e

-- the rest of a path is that of the path opened
pub opened_rest : (o : Opened) (k : Seps) (s : List ℕ) (f b : ℕ) (r : Option Span) → o.seps ≡ k → o.path.now ≡ s → r ≡ rest_asked o.seps o.path.now f b → r ≡ rest_asked k s f b
opened_rest o k s f b r i j e = rw (← i, ← j) e

pub ruleset alls = (all_fits, all_is, rest_zero, opened_rest)

pub ruleset ends = (head_low, between_fits, between_is, back_is, second_fits, second_is, plain_is, seen_none, seen_one, seen_is)
