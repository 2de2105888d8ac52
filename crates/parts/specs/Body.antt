-- The body of a path: the segments between separators, in order, and what each is. Document 01, "The component list", 3.
use Rattle.std.specs.Prelude.{ℕ, suc, ◌+◌, ◌-◌, List, [], ◌∷◌, Bool, true, false, cond, length, get_or, drop, eqb, Option, Some, None}
use Rattle.octets.specs.Segment.{lead}
use Rattle.octets.specs.declared.Seps.{Seps}
use Rattle.octets.specs.declared.Seps.TheVariants.{Unix, Windows, Verbatim}
use Rattle.parts.specs.declared.Component.{Component}
use Rattle.parts.specs.declared.Component.TheVariants.{CurDir, ParentDir, Normal}
use Rattle.parts.specs.declared.Element.{Element}
use Rattle.parts.specs.declared.Kind.{Kind}
use Rattle.parts.specs.declared.Kind.TheVariants.{Dot, DotDot, Name}

-- "`.` is skipped (in verbatim paths it is CurDir)": where a lone dot is a component
abbrev pub dots : Seps → Bool
dots Unix = false
dots Windows = false
dots Verbatim = true

-- "empty ones are skipped, `..` is ParentDir, `.` is skipped (in verbatim paths it is CurDir), all others Normal":
-- a segment of n bytes that begins with a and b
unfoldable pub sort_by : Bool → ℕ → ℕ → ℕ → Option Kind
sort_by v n a b =
    cond (eqb n 0) None
    (cond (eqb a 46)
    (cond (eqb n 1) (cond v (Some Dot) None)
    (cond (eqb n 2) (cond (eqb b 46) (Some DotDot) (Some Name)) (Some Name)))
    (Some Name))

abbrev pub sort_of : Bool → List ℕ → Option Kind
sort_of v w = sort_by v (length w) (get_or w 0 0) (get_or w 1 0)

abbrev pub component_of : Kind → Component
component_of Dot = CurDir
component_of DotDot = ParentDir
component_of Name = Normal

-- a segment of n bytes at place i, before the elements l
abbrev pub put : Option Kind → ℕ → ℕ → List Element → List Element
put None i n l = l
put (Some q) i n l = record { component = component_of q; start = i; len = n } ∷ l

-- the elements of xs, which starts at place i, behind its first separator
unfoldable pub rest : (ℕ → Bool) → Bool → ℕ → List ℕ → List Element
rest sep v i [] = []
rest sep v i (x ∷ xs) = cond (sep x) (put (sort_of v (lead sep xs)) (suc i) (length (lead sep xs)) (rest sep v (suc i) xs)) (rest sep v (suc i) xs)

-- "The remaining segments in order": the elements of xs, which starts at place i
abbrev pub body : (ℕ → Bool) → Bool → ℕ → List ℕ → List Element
body sep v i xs = put (sort_of v (lead sep xs)) i (length (lead sep xs)) (rest sep v i xs)

-- the elements of the path s from place i on
unfoldable pub from : (ℕ → Bool) → Bool → List ℕ → ℕ → List Element
from sep v s i = body sep v i (drop i s)

-- what the segment from i to e is
abbrev pub sort_at : Bool → List ℕ → ℕ → ℕ → Option Kind
sort_at v s i e = sort_by v (e - i) (get_or s i 0) (get_or s (i + 1) 0)
