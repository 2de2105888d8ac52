-- What the private leaves promise. Nothing here has to be believed: the public promises do not name it.
use Rattle.std.specs.Prelude.{ℕ, ◌+◌, ◌≤◌, ◌≡◌, List, length}
use Rattle.prefixes.specs.declared.Figures.{Figures}
use Rattle.prefixes.specs.Prefix.{past}

pub record Past (a n r : ℕ) : Type 0 where
  pub is : r ≡ past a n
  pub high : r ≤ n

-- a prefix told by figures has its names in the path s
pub record NamesIn (s : List ℕ) (f : Figures) : Type 0 where
  pub first : f.start1 + f.len1 ≤ length s
  pub second : f.start2 + f.len2 ≤ length s
