-- Join case 2, q laid onto a p with a verbatim prefix. Document 01, "Output", 2.
use Rattle.std.specs.Prelude.{ℕ, List, [], ◌∷◌, ◌++◌, Bool, true, false, cond, take, Option, Some, None}
use Rattle.octets.specs.declared.Seps.TheVariants.{Windows}
use Rattle.prefixes.specs.declared.Prefix.{Prefix}
use Rattle.prefixes.specs.declared.Prefix.TheVariants.{Verbatim, VerbatimUnc, VerbatimDisk, DeviceNs, Unc, Disk}
use Rattle.parts.specs.declared.Component.{Component}
use Rattle.parts.specs.declared.Component.TheVariants.{Prefix as Prefixed, RootDir, CurDir, ParentDir, Normal}
use Rattle.parts.specs.declared.Element.{Element}
use Rattle.parts.specs.Elements.{bytes_of}
use Rattle.components.specs.List.{list_of}

-- "p verbatim": one of the three verbatim prefixes
abbrev pub verbatim_kind : Prefix → Bool
verbatim_kind (Verbatim n) = true
verbatim_kind (VerbatimUnc n) = true
verbatim_kind (VerbatimDisk d) = true
verbatim_kind (DeviceNs n) = false
verbatim_kind (Unc n) = false
verbatim_kind (Disk d) = false

abbrev pub verbatim_in : Option Prefix → Bool
verbatim_in None = false
verbatim_in (Some p) = verbatim_kind p

-- a component as its path spells it: with its bytes there
pub record Spelling : Type 0 where
  pub component : Component
  pub bytes : List ℕ

abbrev pub spelling_of : List ℕ → Element → Spelling
spelling_of s x = record { component = x.component; bytes = bytes_of s x }

unfoldable pub spellings_of : List ℕ → List Element → List Spelling
spellings_of s [] = []
spellings_of s (x ∷ l) = spelling_of s x ∷ spellings_of s l

-- "ParentDir removes a last Normal and otherwise does nothing"
abbrev pub unless_normal : Component → Spelling → List Spelling
unless_normal (Prefixed p) v = v ∷ []
unless_normal RootDir v = v ∷ []
unless_normal CurDir v = v ∷ []
unless_normal ParentDir v = v ∷ []
unless_normal Normal v = []

unfoldable pub popped : List Spelling → List Spelling
popped [] = []
popped (v ∷ []) = unless_normal v.component v
popped (v ∷ w ∷ l) = v ∷ popped (w ∷ l)

-- "RootDir cuts to the prefix and adds RootDir, CurDir does nothing, ParentDir removes a last Normal .., Normal is added".
-- The prefix is the first of p's list; q has none, since case 1 comes first.
abbrev pub added : Component → Spelling → List Spelling → List Spelling
added (Prefixed p) v l = l ++ (v ∷ [])
added RootDir v l = take 1 l ++ (v ∷ [])
added CurDir v l = l
added ParentDir v l = popped l
added Normal v l = l ++ (v ∷ [])

-- "take p's list; for q's list .."
unfoldable pub laid : List Spelling → List Spelling → List Spelling
laid l [] = l
laid l (v ∷ q) = laid (added v.component v l) q

abbrev pub is_root_dir : Component → Bool
is_root_dir (Prefixed p) = false
is_root_dir RootDir = true
is_root_dir CurDir = false
is_root_dir ParentDir = false
is_root_dir Normal = false

-- "Write the prefix bytes, RootDir as `\`"
abbrev pub text_of : Component → List ℕ → List ℕ
text_of (Prefixed p) w = w
text_of RootDir w = 92 ∷ []
text_of CurDir w = w
text_of ParentDir w = w
text_of Normal w = w

-- "one `\` between other neighbours, none beside RootDir": none behind where b holds, and none before where c does
abbrev pub between : Bool → Bool → List ℕ
between b c = cond b [] (cond c [] (92 ∷ []))

-- the bytes of a list, where b says that nothing stands before it, or RootDir does
unfoldable pub written : Bool → List Spelling → List ℕ
written b [] = []
written b (v ∷ l) = between b (is_root_dir v.component) ++ text_of v.component v.bytes ++ written (is_root_dir v.component) l

-- p, which has a verbatim prefix, joined with a q that is not empty and has no prefix
unfoldable pub verbatim_join : List ℕ → List ℕ → List ℕ
verbatim_join p q = written true (laid (spellings_of p (list_of Windows p)) (spellings_of q (list_of Windows q)))
