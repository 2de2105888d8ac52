-- Unix `absolute`. Document 01, "Output", and 5 and 6 of "Replies".
use Rattle.std.specs.Prelude.{ℕ, ◌-◌, List, [], ◌∷◌, Bool, true, false, not, cond, length}
use Rattle.octets.specs.declared.Seps.TheVariants.{Unix}
use Rattle.answers.specs.Outcome.{Outcome, give, given, based}
use Rattle.parts.specs.declared.Component.{Component}
use Rattle.parts.specs.declared.Component.TheVariants.{Prefix, RootDir, CurDir, ParentDir, Normal}
use Rattle.parts.specs.declared.Element.{Element}
use Rattle.parts.specs.Elements.{bytes_of}
use Rattle.components.specs.List.{sep_at, list_of, is_absolute}
use Rattle.seams.specs.Seam.{glued, seamed}

-- "exactly two leading slashes"
unfoldable pub two_slashes : List ℕ → Bool
two_slashes s = cond (sep_at Unix s 0) (cond (sep_at Unix s 1) (not (sep_at Unix s 2)) false) false

-- "start with `//` for exactly two leading slashes, `/` for one or more than two, else the current directory as it stands"
unfoldable pub start_for : List ℕ → List ℕ → List ℕ
start_for s cwd = cond (is_absolute Unix s) (cond (two_slashes s) (47 ∷ 47 ∷ []) (47 ∷ [])) cwd

-- "RootDir and a leading CurDir left out": a Unix path has no other CurDir than one that leads
abbrev pub left_out : Component → Bool
left_out (Prefix p) = false
left_out RootDir = true
left_out CurDir = true
left_out ParentDir = false
left_out Normal = false

-- "join the components one by one", of the path s to what stands there, t
unfoldable pub one_by_one : List ℕ → List ℕ → List Element → List ℕ
one_by_one s t [] = t
one_by_one s t (x ∷ l) = one_by_one s (cond (left_out x.component) t (seamed Unix t (bytes_of s x))) l

-- s "ends in `/`"
unfoldable pub ends : List ℕ → Bool
ends s = sep_at Unix s (length s - 1)

-- "if the input ends in `/` and the result does not, add one": the result, t, is never empty
unfoldable pub closed : List ℕ → List ℕ → List ℕ
closed s t = cond (ends s) (glued Unix t) t

-- all of it, behind the start t
unfoldable pub finished : List ℕ → List ℕ → List ℕ
finished s t = closed s (one_by_one s t (list_of Unix s))

-- Empty: "`absolute` of the empty path"; Base: "`absolute` of a relative path, current directory not starting with `/`"
unfoldable pub absolute_of : List ℕ → List ℕ → Outcome (List ℕ)
absolute_of s cwd = given s (based (cond (is_absolute Unix s) true (sep_at Unix cwd 0)) (give (finished s (start_for s cwd))))
