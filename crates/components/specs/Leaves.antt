-- What the leaves promise to their callers beside the equation. Nothing here has to be believed.
use Rattle.std.specs.Prelude.{ℕ, ◌+◌, ◌^◌, ◌<◌, ◌≤◌, ◌≡◌, List, length, Option}
use Rattle.octets.specs.declared.Seps.{Seps}
use Rattle.parts.specs.declared.Element.{Element}
use Rattle.components.specs.declared.Start.{Start}
use Rattle.components.specs.declared.Body.{Body}
use Rattle.components.specs.declared.Dir.{Dir}
use Rattle.components.specs.List.{inner_seps, dir_len, start_of}
use Rattle.prefixes.specs.declared.Prefix.{Prefix}

-- a start by its parts
unfoldable pub start_with : Seps → Option Prefix → ℕ → Dir → Start
start_with k p e d = record { prefix = p; end = e; dir = d; at = e + dir_len d; seps = inner_seps k p }

-- where the body of s starts, and that it does so in the path
pub record OpenAt (k : Seps) (s : List ℕ) (r : Start) : Type 0 where
  pub is : r ≡ start_of k s
  pub low : r.end ≤ r.at
  pub high : r.at ≤ length s

-- r is where the body of s starts, and what separates in it
pub record BodyAt (k : Seps) (s : List ℕ) (r : Body) : Type 0 where
  pub place : r.at ≡ (start_of k s).at
  pub by : r.seps ≡ (start_of k s).seps

-- r counts the list l, with room for one more
pub record CountAt (l : List Element) (r : ℕ) : Type 0 where
  pub is : r ≡ length l
  pub small : r + 1 < 2 ^ 64
