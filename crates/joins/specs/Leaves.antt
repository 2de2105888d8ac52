-- Join's tests, told by where the paths start. Nothing here has to be believed.
use Rattle.std.specs.Prelude.{ℕ, Bool, false, cond, List, [], ◌∷◌, ◌++◌, length, eqb}
use Rattle.octets.specs.declared.Seps.{Seps}
use Rattle.octets.specs.declared.Seps.TheVariants.{Unix, Windows, Verbatim as OnlyBack}
use Rattle.components.specs.declared.Start.{Start}
use Rattle.components.specs.List.{sep_at, is_root}
use Rattle.prefixes.specs.Prefix.{has_prefix, on_disk}
use Rattle.seams.specs.Seam.{sep_of, wants}
use Rattle.verbatim.specs.Verbatim.{verbatim_in}

-- case 1, of a path that starts with h
abbrev pub replaced_by : Seps → Start → Bool
replaced_by Unix h = is_root h.dir
replaced_by Windows h = has_prefix h.prefix
replaced_by OnlyBack h = is_root h.dir

-- case 2, of a path that starts with g, and q
unfoldable pub mended_by : Start → List ℕ → Bool
mended_by g q = cond (eqb (length q) 0) false (verbatim_in g.prefix)

-- case 4, of a path p that starts with g
unfoldable pub mere_by : Start → List ℕ → Bool
mere_by g p = cond (on_disk g.prefix) (eqb g.end (length p)) false

unfoldable pub parted_by : Seps → Start → List ℕ → Bool
parted_by k g p = cond (mere_by g p) false (wants k p)

unfoldable pub behind : Seps → List ℕ → Bool → List ℕ → List ℕ
behind k p apart q = cond apart (p ++ (sep_of k ∷ []) ++ q) (p ++ q)

-- how much of p stays in front of q in Unix mode
unfoldable pub kept_unix : List ℕ → List ℕ → ℕ
kept_unix p q = cond (sep_at Unix q 0) 0 (length p)
