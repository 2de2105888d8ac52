-- What of a path's elements is compared. Document 01, "Views over the list".
use Rattle.std.specs.Prelude.{ℕ, List, [], map}
use Rattle.octets.specs.declared.Seps.{Seps}
use Rattle.prefixes.specs.declared.Figures.{Figures}
use Rattle.prefixes.specs.Prefix.{figures_of}
use Rattle.parts.specs.declared.Component.{Component}
use Rattle.parts.specs.declared.Component.TheVariants.{Prefix, RootDir, CurDir, ParentDir, Normal}
use Rattle.parts.specs.declared.Element.{Element}
use Rattle.parts.specs.Elements.{bytes_at}
use Rattle.components.specs.List.{list_of}

-- "Equal means equal lists; extents are not compared": of an element there is its kind, and of a prefix its own kind, the
-- capital letter and the bytes of its names; the bytes of a Normal are its name
pub record Value : Type 0 where
  pub kind : ℕ
  pub prefix : ℕ
  pub letter : ℕ
  pub name : List ℕ
  pub share : List ℕ

abbrev pub valued : ℕ → List ℕ → Value
valued c w = record { kind = c; prefix = 0; letter = 0; name = w; share = [] }

-- "prefixes in the order Verbatim, VerbatimUNC, VerbatimDisk, DeviceNS, UNC, Disk, then their contents": as its figures number them
abbrev pub prefix_value : List ℕ → Figures → Value
prefix_value s f = record { kind = 1; prefix = f.kind; letter = f.letter; name = bytes_at s f.start1 f.len1; share = bytes_at s f.start2 f.len2 }

-- "kinds Prefix, RootDir, CurDir, ParentDir, Normal", from 1: the value of a component of s, n bytes from i on
abbrev pub value_by : List ℕ → Component → ℕ → ℕ → Value
value_by s (Prefix p) i n = prefix_value s (figures_of p)
value_by s RootDir i n = valued 2 []
value_by s CurDir i n = valued 3 []
value_by s ParentDir i n = valued 4 []
value_by s Normal i n = valued 5 (bytes_at s i n)

abbrev pub value_of : List ℕ → Element → Value
value_of s e = value_by s e.component e.start e.len

unfoldable pub values_in : List ℕ → List Element → List Value
values_in s l = map (value_of s) l

-- the values of a path's list
unfoldable pub values_of : Seps → List ℕ → List Value
values_of k s = values_in s (list_of k s)
