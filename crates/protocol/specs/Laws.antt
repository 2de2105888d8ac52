-- Laws of the digits, numbers and bytes of a word: one a way through each function.
use Prim.Native.Nat.{ℕ, zero, suc, ◌+◌, ◌-◌, ◌*◌, ◌^◌, ◌<◌, ◌≤◌}
use native.Mathlib.Omega.{arith}
use Rattle.std.proofs.Common.{ap, ◌∙◌, Option, Some, None}
use Rattle.std.proofs.Math.Numerals.{add-one}
use Rattle.std.specs.Prelude.{◌≡◌, Bool, true, false, length, get_or, take, drop, set, leb, codes}
use Rattle.std.specs.Str.{bytes_eq}
use Rattle.std.proofs.Math.Path.{refl, sym}
use mathlib.Core.List.{List, [], ◌∷◌, ◌++◌, append-nil, append_assoc}
use Rattle.std.proofs.Math.ListN.{drop_of_length-le}
use Rattle.std.proofs.Math.Seq.{drop-cons, take-suc-set}
use Rattle.std.specs.Simd.{first_chunks}
use borrow.Author.Tests.{eq-eqb, ne_eqb, lt-ltb, le-ltb, le-leb, lt-leb}
use Rattle.protocol.specs.Digits.{digit_of, decimal, value_from, read_from, read_at, number_in, prepended, pairs_of, pairs_at, bytes_in}

-- a proof for each value of a Bool, with the equation
split : {A : Type 0} (b : Bool) → (b ≡ true → A) → (b ≡ false → A) → A
split true f g = f refl
split false f g = g refl

-- `digit`
module _ (b : ℕ) where
  pub digit_decimal : 48 ≤ b → b ≤ 57 → b - 48 ≡ digit_of b
  unfolding digit_of
  digit_decimal l h = simp (le-leb 48 b l, le-leb b 57 h)

  pub digit_letter : 97 ≤ b → b ≤ 102 → b - 87 ≡ digit_of b
  unfolding digit_of
  digit_letter l h = simp (le-leb 48 b (omega arith), lt-leb b 57 (omega arith), le-leb 97 b l, le-leb b 102 h)

  pub digit_below : b < 48 → digit_of b ≡ 16
  unfolding digit_of
  digit_below h = simp (lt-leb 48 b h)

  pub digit_between : 57 < b → b < 97 → digit_of b ≡ 16
  unfolding digit_of
  digit_between l h = simp (le-leb 48 b (omega arith), lt-leb b 57 l, lt-leb 97 b h)

  pub digit_above : 102 < b → digit_of b ≡ 16
  unfolding digit_of
  digit_above l =
      simp (le-leb 48 b (omega arith), lt-leb b 57 (omega arith), le-leb 97 b (omega arith), lt-leb b 102 l)

-- `value_of`
grows : (v : ℕ) (w : List ℕ) → v ≤ value_from v w
unfolding value_from
grows v [] = omega arith
grows v (x ∷ w) = let g = grows (v * 10 + digit_of x) w in omega arith

value_on : (v x : ℕ) (w : List ℕ) → value_from v (x ∷ w) ≡ value_from (v * 10 + digit_of x) w
unfolding value_from
value_on v x w = refl

-- a row of 2^64 or more stays refused
too_large : (v : ℕ) (w : List ℕ) → 2 ^ 64 ≤ v → read_from v w ≡ None
unfolding read_from
too_large v w h =
    let g = grows v w in
    split (decimal w) (λ e. rw (e, le-ltb (value_from v w) (2 ^ 64) (omega arith))) (λ e. rw e)

module _ (w : List ℕ) where
  pub number_none : length w ≡ 0 → number_in w ≡ None
  unfolding number_in
  number_none h = simp (eq-eqb (length w) 0 h)

  pub number_long : 20 < length w → number_in w ≡ None
  unfolding number_in
  number_long h = simp (ne_eqb (length w) 0 (λ e. omega arith), lt-leb (length w) 20 h)

  pub number_start : (length w ≡ 0 → ⊥) → length w ≤ 20 → number_in w ≡ read_at 0 w 0
  unfolding number_in read_at
  number_start h l = simp (ne_eqb (length w) 0 h, le-leb (length w) 20 l)

  module _ (v i : ℕ) (e : number_in w ≡ read_at v w i) where
    pub number_done : length w ≤ i → v < 2 ^ 64 → number_in w ≡ Some v
    unfolding read_at read_from decimal value_from
    number_done h l = e ∙ rw (drop_of_length-le w h) (simp (lt-ltb v (2 ^ 64) l))

    module _ (h : i < length w) where
      pub number_other : 9 < digit_of (get_or w i 0) → number_in w ≡ None
      unfolding read_at read_from decimal
      number_other g = e ∙ rw (drop-cons w i 0 h) (simp (lt-leb (digit_of (get_or w i 0)) 9 g))

      module _ (d : ℕ) (t : d ≡ digit_of (get_or w i 0)) (g : d ≤ 9) where
        pub number_more : number_in w ≡ read_at (v * 10 + d) w (i + 1)
        unfolding read_at read_from decimal
        number_more = e ∙ rw (drop-cons w i 0 h, add-one, value_on v (get_or w i 0) (drop (suc i) w), ← t) (simp (le-leb d 9 g))

      pub number_over : digit_of (get_or w i 0) ≤ 9 → 2 ^ 64 ≤ v * 10 + digit_of (get_or w i 0) → number_in w ≡ None
      unfolding read_at
      number_over g l = number_more (digit_of (get_or w i 0)) refl g ∙ too_large (v * 10 + digit_of (get_or w i 0)) (drop (i + 1) w) l

-- `pairs`
prepended_twice : (l m : List ℕ) (o : Option (List ℕ)) → prepended l (prepended m o) ≡ prepended (l ++ m) o
prepended_twice l m None = refl
prepended_twice l m (Some n) = ap Some (sym (append_assoc l m n))

-- the two digits of pair j
pair_at :
    (k j : ℕ) (w : List ℕ)
    → j < k → k + k ≤ length w
    → (get_or (get_or (first_chunks 2 k w) j []) 0 0 ≡ get_or w (j + j) 0)
    × (get_or (get_or (first_chunks 2 k w) j []) 1 0 ≡ get_or w (j + j + 1) 0)
pair_at zero j w h l = absurd (omega arith)
pair_at (suc k) j [] h l = absurd (omega arith)
pair_at (suc k) j (x ∷ []) h l = absurd (omega arith)
pair_at (suc k) zero (x ∷ y ∷ w) h l = (refl, refl)
pair_at (suc k) (suc j) (x ∷ y ∷ w) h l =
    let p = pair_at k j w (omega arith) (omega arith) in
    let e : suc j + suc j ≡ suc (suc (j + j)) = omega arith in
    let f : suc j + suc j + 1 ≡ suc (suc (j + j + 1)) = omega arith in
    (rw e p.0, rw f p.1)

module _ (w : List ℕ) where
  pub pairs_start : (out : List ℕ) → pairs_of w ≡ prepended (take 0 out) (pairs_at w 0)
  unfolding pairs_at
  pairs_start out = split_bytes (pairs_of w) where
    split_bytes : (o : Option (List ℕ)) → o ≡ prepended [] o
    split_bytes None = refl
    split_bytes (Some l) = refl

  module _ (out : List ℕ) (i k : ℕ) (e : pairs_of w ≡ prepended (take k out) (pairs_at w i)) where
    pub pairs_odd : length w ≤ i + 1 → i < length w → pairs_of w ≡ None
    unfolding pairs_at pairs_of
    pairs_odd g h = e ∙ rw (drop-cons w i 0 h, drop_of_length-le w {i = suc i} (omega arith))

    pub pairs_done : length w ≤ i → pairs_of w ≡ Some (take k out)
    unfolding pairs_at pairs_of
    pairs_done h = e ∙ rw (drop_of_length-le w h) (simp append-nil)

    module _ (h : i + 1 < length w) where
      opened : drop i w ≡ get_or w i 0 ∷ (get_or w (i + 1) 0 ∷ drop (i + 2) w)
      opened =
          let two : suc (i + 1) ≡ i + 2 = omega arith in
          rw (drop-cons w i 0 (omega arith), ← add-one i, drop-cons w (i + 1) 0 h, two)

  -- pair k of the word's n pairs, which holds the digits of values x and y
  module _ (out : List ℕ) (k : ℕ) (e : pairs_of w ≡ prepended (take k out) (pairs_at w (k + k))) (n : ℕ) (ps : List (List ℕ)) (f : ps ≡ first_chunks 2 n w) (h : k < n) (l : n + n ≤ length w) where
    high_at : get_or (get_or ps k []) 0 0 ≡ get_or w (k + k) 0
    high_at = rw f ((pair_at n k w h l).0)

    low_at : get_or (get_or ps k []) 1 0 ≡ get_or w (k + k + 1) 0
    low_at = rw f ((pair_at n k w h l).1)

    pub pairs_high : digit_of (get_or (get_or ps k []) 0 0) ≡ 16 → pairs_of w ≡ None
    unfolding pairs_at pairs_of
    pairs_high g = e ∙ rw (opened out (k + k) k e (omega arith), ← high_at, g) refl

    pub pairs_low : digit_of (get_or (get_or ps k []) 1 0) ≡ 16 → pairs_of w ≡ None
    unfolding pairs_at pairs_of
    pairs_low g =
        e
        ∙ rw (opened out (k + k) k e (omega arith), ← low_at, g)
        (split (leb (digit_of (get_or w (k + k) 0)) 15) (λ y. rw y) (λ y. rw y))

    pub pairs_more :
        (x y : ℕ)
        → x ≡ digit_of (get_or (get_or ps k []) 0 0) → y ≡ digit_of (get_or (get_or ps k []) 1 0)
        → x < 16 → y < 16 → k < length out
        → pairs_of w
        ≡ prepended (take (k + 1) (set out k (x * 16 + y))) (pairs_at w (k + 1 + (k + 1)))
    unfolding pairs_at pairs_of
    pairs_more x y s t u v m =
        let two : k + 1 + (k + 1) ≡ k + k + 2 = omega arith in
        e
        ∙ rw (opened out (k + k) k e (omega arith), ← high_at, ← low_at, ← s, ← t, two)
        (simp (le-leb x 15 (omega arith), le-leb y 15 (omega arith)) (rw (add-one k, take-suc-set out k (x * 16 + y) m) (prepended_twice (take k out) ((x * 16 + y) ∷ []) (pairs_of (drop (k + k + 2) w)))))

-- `bytes`
module _ (w : List ℕ) where
  pub bytes_dash : bytes_eq w (codes "-") ≡ true → bytes_in w ≡ Some []
  unfolding bytes_in
  bytes_dash y = rw y

  module _ (n : bytes_eq w (codes "-") ≡ false) where
    pub bytes_empty : length w ≡ 0 → bytes_in w ≡ None
    unfolding bytes_in
    bytes_empty h = rw n (simp (eq-eqb (length w) 0 h))

    pub bytes_long : 16384 < length w → bytes_in w ≡ None
    unfolding bytes_in
    bytes_long l = rw n (simp (ne_eqb (length w) 0 (λ e. omega arith), lt-leb (length w) 16384 l))

    pub bytes_are : (length w ≡ 0 → ⊥) → length w ≤ 16384 → bytes_in w ≡ pairs_of w
    unfolding bytes_in
    bytes_are h l = rw n (simp (ne_eqb (length w) 0 h, le-leb (length w) 16384 l))

pub ruleset digits = (digit_decimal, digit_letter, digit_below, digit_between, digit_above)

pub ruleset numbers = (number_none, number_long, number_start, number_done, number_other, number_more, number_over)

pub ruleset pairs = (pairs_start, pairs_odd, pairs_done, pairs_high, pairs_low, pairs_more)

pub ruleset bytes = (bytes_dash, bytes_empty, bytes_long, bytes_are)
