-- What is still to be written behind a start, as the two walks see it. Nothing here has to be believed.
use Rattle.std.specs.Prelude.{ℕ, ◌+◌, ◌<◌, ◌≤◌, ◌≡◌, List, [], ◌∷◌, ◌++◌, Bool, true, false, cond, length}
use Rattle.octets.specs.Class.{is_sep}
use Rattle.octets.specs.declared.Seps.TheVariants.{Unix}
use Rattle.parts.specs.declared.Element.{Element}
use Rattle.parts.specs.Body.{from}
use Rattle.parts.specs.Elements.{bytes_of}
use Rattle.absolute.specs.Absolute.{ends}

-- a separator, where one is wanted
abbrev pub sep_if : Bool → List ℕ
sep_if b = cond b (47 ∷ []) []

-- the elements l of s, by whether a separator is wanted before them, and the last separator
unfoldable pub tail_of : List ℕ → Bool → List Element → List ℕ
tail_of s b [] = cond (ends s) (sep_if b) []
tail_of s b (x ∷ l) = sep_if b ++ (bytes_of s x ++ tail_of s true l)

-- what comes of s from place i on
unfoldable pub tail_from : List ℕ → Bool → ℕ → List ℕ
tail_from s b i = tail_of s b (from (is_sep Unix) false s i)

-- r counts it
pub record TailLen (s : List ℕ) (b : Bool) (i r : ℕ) : Type 0 where
  pub is : r ≡ length (tail_from s b i)
  pub small : r ≤ length s + 2

-- r tells whether n bytes hold m and it
pub record RoomAt (s : List ℕ) (b : Bool) (i m n : ℕ) (r : Bool) : Type 0 where
  pub enough : r ≡ true → m + length (tail_from s b i) ≤ n
  pub short : r ≡ false → n < m + length (tail_from s b i)
