-- What a private leaf of `next_sep` promises. Nothing here has to be believed.
use Rattle.std.specs.Prelude.{ℕ, ◌+◌, ◌≤◌, ◌≡◌, List, Bool, length, drop}
use Rattle.octets.specs.Segment.{lead}

-- no separator stands among the first n bytes of s
pub record Clear (sep : ℕ → Bool) (s : List ℕ) (n : ℕ) : Type 0 where
  pub within : n ≤ length s
  pub past : length (lead sep s) ≡ n + length (lead sep (drop n s))
