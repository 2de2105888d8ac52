-- A path's list of components. Document 01, "The component list". k is the set of separators of the mode, Unix or Windows.
use Rattle.std.specs.Prelude.{ℕ, ◌+◌, List, [], ◌∷◌, ◌++◌, Bool, true, false, not, cond, length, get_or, eqb, ltb, Option, Some, None}
use Rattle.octets.specs.Class.{is_sep}
use Rattle.octets.specs.declared.Seps.{Seps}
use Rattle.octets.specs.declared.Seps.TheVariants.{Unix, Windows, Verbatim as OnlyBack}
use Rattle.prefixes.specs.declared.Prefix.{Prefix}
use Rattle.prefixes.specs.declared.Prefix.TheVariants.{Verbatim, VerbatimUnc, VerbatimDisk, DeviceNs, Unc, Disk}
use Rattle.prefixes.specs.Prefix.{prefix_in, end_of_prefix, has_prefix, is_disk}
use Rattle.parts.specs.Body.{dots, from}
use Rattle.parts.specs.declared.Component.TheVariants.{Prefix as Prefixed, RootDir, CurDir}
use Rattle.parts.specs.declared.Element.{Element}
use Rattle.components.specs.declared.Dir.{Dir}
use Rattle.components.specs.declared.Dir.TheVariants.{Bare, Root, Implied, Dot}
use Rattle.components.specs.declared.Start.{Start}

-- a separator stands at place i
unfoldable pub sep_at : Seps → List ℕ → ℕ → Bool
sep_at k s i = cond (ltb i (length s)) (is_sep k (get_or s i 0)) false

-- the segment at place i is `.`
unfoldable pub dot_at : Seps → List ℕ → ℕ → Bool
dot_at k s i = cond (eqb (get_or s i 0) 46) (cond (eqb (i + 1) (length s)) true (sep_at k s (i + 1))) false

-- "Inside a verbatim prefix's path only `\` separates."
abbrev pub prefix_seps : Seps → Prefix → Seps
prefix_seps k (Verbatim n) = OnlyBack
prefix_seps k (VerbatimUnc n) = OnlyBack
prefix_seps k (VerbatimDisk d) = OnlyBack
prefix_seps k (DeviceNs n) = k
prefix_seps k (Unc n) = k
prefix_seps k (Disk d) = k

abbrev pub inner_seps : Seps → Option Prefix → Seps
inner_seps k None = k
inner_seps k (Some p) = prefix_seps k p

-- 2. "RootDir if the next byte is a separator (`/` counts even after VerbatimDisk), extent one byte. Else, for UNC and
-- DeviceNS, RootDir with an empty extent. Else, with no prefix, CurDir if the path's first segment is `.`."
abbrev pub prefix_dir : Prefix → Dir
prefix_dir (Verbatim n) = Bare
prefix_dir (VerbatimUnc n) = Bare
prefix_dir (VerbatimDisk d) = Bare
prefix_dir (DeviceNs n) = Implied
prefix_dir (Unc n) = Implied
prefix_dir (Disk d) = Bare

abbrev pub behind_prefix : Seps → Option Prefix → List ℕ → Dir
behind_prefix k None s = cond (dot_at k s 0) Dot Bare
behind_prefix k (Some p) s = prefix_dir p

unfoldable pub dir_of : Seps → Option Prefix → List ℕ → ℕ → Dir
dir_of k p s e = cond (sep_at k s e) Root (behind_prefix k p s)

-- how many bytes it takes
abbrev pub dir_len : Dir → ℕ
dir_len Bare = 0
dir_len Root = 1
dir_len Implied = 0
dir_len Dot = 1

-- where the body starts, and what stands ahead of it
unfoldable pub start_of : Seps → List ℕ → Start
start_of k s =
    record {
      prefix = prefix_in k s;
      end = end_of_prefix (prefix_in k s);
      dir = dir_of k (prefix_in k s) s (end_of_prefix (prefix_in k s));
      at = end_of_prefix (prefix_in k s) + dir_len (dir_of k (prefix_in k s) s (end_of_prefix (prefix_in k s)));
      seps = inner_seps k (prefix_in k s);
    }

-- 1. "The prefix, if any." It ends at e.
abbrev pub prefix_part : Option Prefix → ℕ → List Element
prefix_part None e = []
prefix_part (Some p) e = record { component = Prefixed p; start = 0; len = e } ∷ []

-- 2., behind a prefix that ends at e
abbrev pub dir_part : Dir → ℕ → List Element
dir_part Bare e = []
dir_part Root e = record { component = RootDir; start = e; len = 1 } ∷ []
dir_part Implied e = record { component = RootDir; start = e; len = 0 } ∷ []
dir_part Dot e = record { component = CurDir; start = e; len = 1 } ∷ []

unfoldable pub head_list : Start → List Element
head_list h = prefix_part h.prefix h.end ++ dir_part h.dir h.end

-- 3. "The remaining segments in order"
unfoldable pub body_list : Start → List ℕ → List Element
body_list h s = from (is_sep h.seps) (dots h.seps) s h.at

unfoldable pub whole_of : Start → List ℕ → List Element
whole_of h s = head_list h ++ body_list h s

-- the list of a path
unfoldable pub list_of : Seps → List ℕ → List Element
list_of k s = whole_of (start_of k s) s

-- "A path has a root if step 2's first case holds or it has a prefix other than Disk."
abbrev pub is_root : Dir → Bool
is_root Bare = false
is_root Root = true
is_root Implied = false
is_root Dot = false

abbrev pub rootless : Option Prefix → Bool
rootless None = true
rootless (Some p) = is_disk p

unfoldable pub has_root : Seps → List ℕ → Bool
has_root k s = cond (is_root (start_of k s).dir) true (not (rootless (prefix_in k s)))

-- "Absolute: Unix, has a root; Windows, has a root and a prefix."
abbrev pub wants_prefix : Seps → Option Prefix → Bool
wants_prefix Unix p = false
wants_prefix Windows p = not (has_prefix p)
wants_prefix OnlyBack p = false

unfoldable pub is_absolute : Seps → List ℕ → Bool
is_absolute k s = cond (wants_prefix k (prefix_in k s)) false (has_root k s)
