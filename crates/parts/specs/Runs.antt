-- What calls of the iterator over a body add up to.
use Rattle.std.specs.Prelude.{ℕ, zero, suc, ◌+◌, ◌-◌, ◌*◌, ◌^◌, ◌<◌, ◌≤◌, ◌≡◌, List, [], ◌∷◌, ◌++◌, length, take, Option, Some, None, MatchOption, Bool}
use Rattle.std.specs.Iterator.{Yields, SkipsThenYields, Drains}
use Rattle.std.proofs.Common.{◌∙◌, take-take}
use Rattle.std.proofs.Math.Path.{refl, sym, ap}
use Rattle.std.proofs.Math.ListN.{length-append}
use Rattle.std.proofs.Math.Seq.{take-length, length-take-le}
use native.Mathlib.Omega.{arith}
use Rattle.octets.specs.Class.{is_sep}
use Rattle.octets.specs.declared.Seps.{Seps}
use Rattle.parts.specs.declared.Element.{Element}
use Rattle.parts.specs.declared.Part.{Part}
use Rattle.parts.specs.declared.Parts.{Parts}
use Rattle.parts.specs.Body.{dots, from}
use Rattle.parts.specs.Elements.{nth_of, nth_back_of}
use Rattle.parts.specs.Steps.{lift, raised, within, parts_left, GivesFirst, GivesLast, GoesBack, FirstAt, LastAt, MovedTo, CutBefore}
use Rattle.parts.specs.Laws.{few, nth_past, back_on, back_last, back_none}

-- ---- from the front

nth_zero : (p : Element) (l : List Element) → nth_of (p ∷ l) 0 ≡ Some p
unfolding nth_of
nth_zero p l = refl

-- what a step takes from what is left
pub first_over : (s : Parts) → FirstAt (is_sep s.seps) (dots s.seps) s.bytes.now s.at None → parts_left s ≡ []
first_over s f = f.is

pub first_more : (s t : Parts) (p : Part) → FirstAt (is_sep s.seps) (dots s.seps) s.bytes.now s.at (Some p) → MovedTo s (p.start + p.len + 1) t → parts_left s ≡ lift p ∷ parts_left t
first_more s t p f g = f.is ∙ rw (g.seps, g.bytes, g.at) refl

first_runs : (s : Parts) (xs : List Part) (t : Parts) (n : ℕ) → Yields GivesFirst s xs t → length xs ≤ n → nth_of (parts_left s) n ≡ nth_of (parts_left t) (n - length xs)
unfolding nth_of
first_runs s [] t n y h = let z : n ≡ n - 0 = omega arith in ap (λ (q : Parts). nth_of (parts_left q) n) y ∙ ap (nth_of (parts_left t)) z
first_runs s (x ∷ xs) t zero y h = absurd (omega arith)
first_runs s (x ∷ xs) t (suc n) (j, g, y) h =
    let z : n - length xs ≡ suc n - suc (length xs) = omega arith in
    rw (first_more s j x g.0 g.1) (first_runs j xs t n y (omega arith)) ∙ ap (nth_of (parts_left t)) z

first_counts : (s : Parts) (xs : List Part) (t : Parts) → Yields GivesFirst s xs t → length (parts_left s) ≡ length xs + length (parts_left t)
first_counts s [] t y = let z : length (parts_left t) ≡ 0 + length (parts_left t) = omega arith in ap (λ (q : Parts). length (parts_left q)) y ∙ z
first_counts s (x ∷ xs) t (j, g, y) = omega (arith, ap length (first_more s j x g.0 g.1), first_counts j xs t y)

nth_run : (s u : Parts) (n : ℕ) (r : Option Part) → SkipsThenYields GivesFirst s n r u → raised r ≡ nth_of (parts_left s) n
nth_run s u n None (xs, (t, y, g), h) = sym (first_runs s xs t n y h ∙ rw (first_over t g.0) (nth_past [] (n - length xs) (omega arith)))
nth_run s u n (Some p) (xs, (t, y, g), h) =
    let z : n - length xs ≡ 0 = omega (arith, h) in
    sym (first_runs s xs t n y (omega (arith, h)) ∙ rw (z, first_more t u p g.0 g.1) (nth_zero (lift p) (parts_left u)))

count_run : (s : Parts) (n : ℕ) → (xs : List Part) × Drains GivesFirst s xs × (n ≡ length xs) → n ≡ length (parts_left s)
count_run s n (xs, (u, (t, y, g)), h) = omega (arith, h, first_counts s xs t y, ap length (first_over t g.0))

-- ---- from the back

-- the bytes of all the path
whole : (s : Parts) → within (is_sep s.seps) (dots s.seps) s.bytes.now s.at (length s.bytes.now) ≡ parts_left s
unfolding within
whole s = rw (take-length s.bytes.now) refl

pub last_over : (s : Parts) → LastAt (is_sep s.seps) (dots s.seps) s.bytes.now s.at (length s.bytes.now) None → parts_left s ≡ []
last_over s f = sym (whole s) ∙ f.is

pub last_more : (s t : Parts) (p : Part) → LastAt (is_sep s.seps) (dots s.seps) s.bytes.now s.at (length s.bytes.now) (Some p) → CutBefore s p.start t → parts_left s ≡ parts_left t ++ (lift p ∷ [])
last_more s t p f g = sym (whole s) ∙ f.is ∙ rw (g.is) refl

-- nothing is left of t, which is s
pub none_left : (s t : Parts) → t ≡ s → LastAt (is_sep s.seps) (dots s.seps) s.bytes.now s.at (length s.bytes.now) None → parts_left t ≡ []
none_left s t e f = rw e (last_over s f)

last_runs : (s : Parts) (xs : List Part) (t : Parts) (n : ℕ) → Yields GivesLast s xs t → length xs ≤ n → nth_back_of (parts_left s) n ≡ nth_back_of (parts_left t) (n - length xs)
last_runs s [] t n y h = let z : n ≡ n - 0 = omega arith in ap (λ (q : Parts). nth_back_of (parts_left q) n) y ∙ ap (nth_back_of (parts_left t)) z
last_runs s (x ∷ xs) t zero y h = absurd (omega arith)
last_runs s (x ∷ xs) t (suc n) (j, g, y) h =
    let z : n - length xs ≡ suc n - suc (length xs) = omega arith in
    let k : suc n ≡ n + 1 = omega arith in
    ap (nth_back_of (parts_left s)) k ∙ back_on (parts_left s) (parts_left j) (lift x) (last_more s j x g.0 g.1) n ∙ last_runs j xs t n y (omega arith) ∙ ap (nth_back_of (parts_left t)) z

nth_back_run : (s u : Parts) (n : ℕ) (r : Option Part) → SkipsThenYields GivesLast s n r u → raised r ≡ nth_back_of (parts_left s) n
nth_back_run s u n None (xs, (t, y, g), h) = sym (last_runs s xs t n y h ∙ back_none (parts_left t) (n - length xs) (last_over t g.0))
nth_back_run s u n (Some p) (xs, (t, y, g), h) =
    let z : n - length xs ≡ 0 = omega (arith, h) in
    sym (last_runs s xs t n y (omega (arith, h)) ∙ rw z (back_last (parts_left t) (parts_left u) (lift p) (last_more t u p g.0 g.1)))

-- what a caller's loop over the iterator asks of a turn
pub ruleset turns = (first_over, first_more, last_over, last_more, length-append)

-- ---- the functions over places: q is the iterator over the bytes of s from at on, or over those up to hi

module _ (q : Parts) (k : Seps) (s : List ℕ) (at : ℕ) (x : q.seps ≡ k) (y : q.bytes.now ≡ s) (z : q.at ≡ at) where
  left_is : parts_left q ≡ from (is_sep k) (dots k) s at
  left_is = rw (x, y, z) refl

  pub first_is : (r : Option Part) → FirstAt (is_sep q.seps) (dots q.seps) q.bytes.now q.at r → FirstAt (is_sep k) (dots k) s at r
  first_is r f = rw (x, y, z) at f

  pub count_fits : length s * 1 < 2 ^ 63 → 0 + length (parts_left q) < 2 ^ 64
  count_fits m = omega (arith, ap length left_is, few (is_sep k) (dots k) s at)

  module _ (xs : List Part) (t : Parts) (w : Yields GivesFirst q xs t) (u : Parts) where
    pub nth_is : (n : ℕ) (r : Option Part) → FirstAt (is_sep t.seps) (dots t.seps) t.bytes.now t.at r → MatchOption r (parts_left u ≡ []) (λ p. MovedTo t (p.start + p.len + 1) u) → MatchOption r (length xs ≤ n) (λ _. length xs ≡ n) → raised r ≡ nth_of (from (is_sep k) (dots k) s at) n
    nth_is n r f g h = nth_run q u n r (xs, (t, w, (f, g)), h) ∙ rw left_is refl

    pub count_is : (n : ℕ) → FirstAt (is_sep t.seps) (dots t.seps) t.bytes.now t.at None → parts_left u ≡ [] → n ≡ length xs → n ≡ length (from (is_sep k) (dots k) s at)
    count_is n f g h = count_run q n (xs, (u, (t, w, (f, g))), h) ∙ ap length left_is

-- the last part of the bytes up to hi is the last one between lo and hi
module _ (sep : ℕ → Bool) (v : Bool) (s : List ℕ) (lo hi : ℕ) (c : hi ≤ length s) where
  pub last_is : (r : Option Part) → length s * 1 < 2 ^ 63 → LastAt sep v (take hi s) lo (length (take hi s)) r → LastAt sep v s lo hi r
  unfolding within
  last_is None m f = record { is = rw (take-length (take hi s)) at f.is; spans = tt }
  last_is (Some p) m f =
      let n : length (take hi s) ≡ hi = length-take-le hi s c in
      let w : take p.start (take hi s) ≡ take p.start s = take-take p.start hi s (omega (arith, f.spans.1, n)) in
      record {
        is = rw (take-length (take hi s)) at f.is ∙ rw w refl;
        spans = (f.spans.0, omega (arith, f.spans.1, n), c, omega arith);
      }

module _ (q : Parts) (k : Seps) (s : List ℕ) (lo hi : ℕ) (x : q.seps ≡ k) (y : q.bytes.now ≡ take hi s) (z : q.at ≡ lo) where
  left_within : parts_left q ≡ within (is_sep k) (dots k) s lo hi
  unfolding within
  left_within = rw (x, y, z) refl

  module _ (xs : List Part) (t : Parts) (w : Yields GivesLast q xs t) (u : Parts) where
    pub nth_back_is : (n : ℕ) (r : Option Part) → LastAt (is_sep t.seps) (dots t.seps) t.bytes.now t.at (length t.bytes.now) r → MatchOption r (parts_left u ≡ []) (λ p. CutBefore t p.start u) → MatchOption r (length xs ≤ n) (λ _. length xs ≡ n) → raised r ≡ nth_back_of (within (is_sep k) (dots k) s lo hi) n
    nth_back_is n r f g h = nth_back_run q u n r (xs, (t, w, (f, g)), h) ∙ rw left_within refl

-- `walk_back`: e says what the loop has kept, n parts to go from the end of what q has left
pub within_is : (sep : ℕ → Bool) (v : Bool) (s : List ℕ) (lo hi : ℕ) → within sep v s lo hi ≡ from sep v (take hi s) lo
unfolding within
within_is sep v s lo hi = refl

module _ (q : Parts) (l : List Element) (b n : ℕ) (e : GoesBack l b (parts_left q) n) where
  pub walk_out : LastAt (is_sep q.seps) (dots q.seps) q.bytes.now q.at (length q.bytes.now) None → length l + n ≡ b
  walk_out f = omega (arith, e.left, ap length (last_over q f))

  module _ (t : Parts) (p : Part) (f : LastAt (is_sep q.seps) (dots q.seps) q.bytes.now q.at (length q.bytes.now) (Some p)) (g : CutBefore q p.start t) where
    pub walk_this : n ≡ 0 → Some (lift p) ≡ nth_back_of l b
    walk_this z = sym (e.same ∙ rw z (back_last (parts_left q) (parts_left t) (lift p) (last_more q t p f g)))

    pub walk_same : (n ≡ 0 → ⊥) → nth_back_of l b ≡ nth_back_of (parts_left t) (n - 1)
    walk_same z =
        let m : n ≡ n - 1 + 1 = omega arith in
        e.same ∙ ap (nth_back_of (parts_left q)) m ∙ back_on (parts_left q) (parts_left t) (lift p) (last_more q t p f g) (n - 1)

    pub walk_left : (n ≡ 0 → ⊥) → length l + (n - 1) ≡ length (parts_left t) + b
    walk_left z = omega (arith, e.left, ap length (last_more q t p f g), length-append (parts_left t) (lift p ∷ []))

pub ruleset runs = (none_left, first_is, nth_is, count_fits, count_is, last_is, nth_back_is, within_is, walk_out, walk_this, walk_same, walk_left)
