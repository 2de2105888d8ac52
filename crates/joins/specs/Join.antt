-- Join of two paths. Document 01, "Output". k is the set of separators of the mode, Unix or Windows.
use Rattle.std.specs.Prelude.{ℕ, Bool, false, cond, List, [], ◌∷◌, ◌++◌, length, take, eqb}
use Rattle.octets.specs.declared.Seps.{Seps}
use Rattle.octets.specs.declared.Seps.TheVariants.{Unix, Windows, Verbatim as OnlyBack}
use Rattle.prefixes.specs.Prefix.{prefix_in, end_of_prefix, has_prefix, on_disk}
use Rattle.components.specs.List.{has_root, is_absolute}
use Rattle.seams.specs.Seam.{sep_of, wants}
use Rattle.verbatim.specs.Verbatim.{verbatim_in, verbatim_join}

-- 1. "Unix: q absolute; Windows: q has a prefix"
abbrev pub replaced : Seps → List ℕ → Bool
replaced Unix q = is_absolute Unix q
replaced Windows q = has_prefix (prefix_in Windows q)
replaced OnlyBack q = is_absolute OnlyBack q

-- 2. "p verbatim, q nonempty"
unfoldable pub mended : Seps → List ℕ → List ℕ → Bool
mended k p q = cond (eqb (length q) 0) false (verbatim_in (prefix_in k p))

-- p is "merely a Disk prefix"
unfoldable pub mere_disk : Seps → List ℕ → Bool
mere_disk k p = cond (on_disk (prefix_in k p)) (eqb (end_of_prefix (prefix_in k p)) (length p)) false

-- 4. "if p is nonempty, does not end in a separator of the mode (Windows: either one, for a verbatim p too) and is not merely a Disk prefix"
unfoldable pub parted : Seps → List ℕ → Bool
parted k p = cond (mere_disk k p) false (wants k p)

-- "Join of p and q, first that applies: 1. .. the result is q. 2. .. 3. q has a root: p's prefix bytes, then q.
-- 4. p; then `/` (Windows `\`) if ..; then q"
unfoldable pub joined : Seps → List ℕ → List ℕ → List ℕ
joined k p q =
    cond (replaced k q) q
    (cond (mended k p q) (verbatim_join p q)
    (cond (has_root k q) (take (end_of_prefix (prefix_in k p)) p ++ q)
    (cond (parted k p) (p ++ (sep_of k ∷ []) ++ q)
    (p ++ q))))
