-- One path set behind another by a set of separators. Document 01, "Output", 4, and in Unix mode 1 as well.
use Rattle.std.specs.Prelude.{ℕ, ◌-◌, Bool, false, cond, not, List, [], ◌∷◌, ◌++◌, length, get_or, eqb}
use Rattle.octets.specs.declared.Seps.{Seps}
use Rattle.octets.specs.declared.Seps.TheVariants.{Unix, Windows, Verbatim}
use Rattle.octets.specs.Class.{is_sep}
use Rattle.components.specs.List.{sep_at}

-- "`/` (Windows `\`)"
abbrev pub sep_of : Seps → ℕ
sep_of Unix = 47
sep_of Windows = 92
sep_of Verbatim = 92

-- "p is nonempty, does not end in a separator of the mode"
unfoldable pub wants : Seps → List ℕ → Bool
wants k s = cond (eqb (length s) 0) false (not (is_sep k (get_or s (length s - 1) 0)))

-- p, and a separator where it wants one
unfoldable pub glued : Seps → List ℕ → List ℕ
glued k p = cond (wants k p) (p ++ (sep_of k ∷ [])) p

-- q where it starts with a separator, else p, a separator where p wants one, and q: the whole of join where no path has a prefix
unfoldable pub seamed : Seps → List ℕ → List ℕ → List ℕ
seamed k p q = cond (sep_at k q 0) q (glued k p ++ q)
