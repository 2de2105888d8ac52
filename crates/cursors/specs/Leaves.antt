-- What the leaves are handed. Nothing here has to be believed.
use Rattle.std.specs.Prelude.{ℕ, ◌+◌, ◌^◌, ◌<◌, ◌≤◌, ◌≡◌, List, length, Option, Some, None}
use Rattle.parts.specs.Elements.{Upto}
use Rattle.components.specs.declared.Start.{Start}
use Rattle.components.specs.List.{whole_of}
use Rattle.cursors.specs.Rest.{dotted, rest_of}
use Rattle.cursors.specs.declared.Span.{Span}

-- each element of the list lies in the path, and places fit a usize
pub record In (h : Start) (s : List ℕ) : Type 0 where
  pub upto : Upto (length s) (whole_of h s)
  pub small : length s < 2 ^ 63

-- what the ends alone tell of the rest: nothing, or all
abbrev pub Tells : Start → List ℕ → ℕ → ℕ → Option Span → Type 0
Tells h s f b None = Unit
Tells h s f b (Some w) = (w ≡ rest_of (dotted h s) (whole_of h s) f b) × (f + b ≤ length (whole_of h s))

pub record SeenAt (h : Start) (s : List ℕ) (f b : ℕ) (r : Option Span) : Type 0 where
  pub is : Tells h s f b r
