-- What the digits of a word stand for.
use Rattle.std.specs.Prelude.{ℕ, ◌+◌, ◌-◌, ◌*◌, ◌^◌, ◌<◌, ◌≤◌, ◌≡◌, Bool, true, false, cond, Option, Some, None, List, [], ◌∷◌, ◌++◌, leb, ltb, eqb, length, take, drop, codes}
use Rattle.std.specs.Str.{bytes_eq}

-- 0-9 and a-f; 16 for every other byte
unfoldable pub digit_of : ℕ → ℕ
digit_of b =
    cond (leb 48 b)
    (cond (leb b 57) (b - 48) (cond (leb 97 b) (cond (leb b 102) (b - 87) 16) 16))
    16

abbrev pub Digit : ℕ → Option ℕ → Type 0
Digit b None = digit_of b ≡ 16
Digit b (Some d) = (d ≡ digit_of b) × (d < 16)

-- the digit that stands for a number below 16
unfoldable pub glyph_of : ℕ → ℕ
glyph_of d = cond (ltb d 10) (48 + d) (87 + d)

-- all of them decimal digits
unfoldable pub decimal : List ℕ → Bool
decimal [] = true
decimal (x ∷ w) = cond (leb (digit_of x) 9) (decimal w) false

-- the value of a row of digits behind a row of value v
unfoldable pub value_from : ℕ → List ℕ → ℕ
value_from v [] = v
value_from v (x ∷ w) = value_from (v * 10 + digit_of x) w

-- digits behind a row of value v, all of them decimal, with a value below 2^64
unfoldable pub read_from : ℕ → List ℕ → Option ℕ
read_from v w = cond (decimal w) (cond (ltb (value_from v w) (2 ^ 64)) (Some (value_from v w)) None) None

-- the same from place i on
unfoldable pub read_at : ℕ → List ℕ → ℕ → Option ℕ
read_at v w i = read_from v (drop i w)

-- one to twenty digits
unfoldable pub number_in : List ℕ → Option ℕ
number_in w = cond (eqb (length w) 0) None (cond (leb (length w) 20) (read_from 0 w) None)

-- bytes behind those of l
abbrev pub prepended : List ℕ → Option (List ℕ) → Option (List ℕ)
prepended l None = None
prepended l (Some m) = Some (l ++ m)

-- two hex digits a byte, the high one first
unfoldable pub pairs_of : List ℕ → Option (List ℕ)
pairs_of [] = Some []
pairs_of (x ∷ []) = None
pairs_of (x ∷ y ∷ w) =
    cond (leb (digit_of x) 15)
    (cond (leb (digit_of y) 15) (prepended ((digit_of x * 16 + digit_of y) ∷ []) (pairs_of w)) None)
    None

-- the same from place i on
unfoldable pub pairs_at : List ℕ → ℕ → Option (List ℕ)
pairs_at w i = pairs_of (drop i w)

-- `-` is no byte; an empty word is refused, and so are more than 8,192 bytes
unfoldable pub bytes_in : List ℕ → Option (List ℕ)
bytes_in w =
    cond (bytes_eq w (codes "-"))
    (Some [])
    (cond (eqb (length w) 0) None (cond (leb (length w) 16384) (pairs_of w) None))

-- the answer, and the bytes at the front of a buffer
abbrev pub Decoded : Option (List ℕ) → Option ℕ → List ℕ → Type 0
Decoded o None out = o ≡ None
Decoded o (Some n) out = (o ≡ Some (take n out)) × (n ≤ 8192)
