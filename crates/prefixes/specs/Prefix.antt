-- Windows prefixes. Document 01, "Windows prefixes".
use Rattle.std.specs.Prelude.{ℕ, ◌+◌, ◌-◌, List, [], ◌∷◌, Bool, true, false, not, cond, length, get_or, take, drop, eqb, ltb, Option, Some, None}
use Rattle.octets.specs.Class.{is_letter, is_sep}
use Rattle.octets.specs.Segment.{lead}
use Rattle.octets.specs.declared.Seps.{Seps}
use Rattle.octets.specs.declared.Seps.TheVariants.{Unix, Windows, Verbatim as OnlyBack}
use Rattle.prefixes.specs.declared.Name.{Name}
use Rattle.prefixes.specs.declared.Names.{Names}
use Rattle.prefixes.specs.declared.Figures.{Figures}
use Rattle.prefixes.specs.declared.Prefix.{Prefix}
use Rattle.prefixes.specs.declared.Prefix.TheVariants.{Verbatim, VerbatimUnc, VerbatimDisk, DeviceNs, Unc, Disk}

-- "Wherever `\\`, `?\` or `.\` is looked for, `/` counts as `\`." And so in `UNC\`: "The Rust compares a copy of the first eight
-- bytes in which `/` was already turned to `\`"
unfoldable pub turned : ℕ → ℕ
turned b = cond (eqb b 47) 92 b

-- s begins with w, so read: `UNC\` is found in `UNC/` too
unfoldable pub begins : List ℕ → List ℕ → Bool
begins [] s = true
begins (c ∷ w) [] = false
begins (c ∷ w) (x ∷ s) = cond (eqb (turned x) c) (begins w s) false

-- a byte of s is really `/`
unfoldable pub slashed : List ℕ → Bool
slashed [] = false
slashed (x ∷ s) = cond (eqb x 47) true (slashed s)

-- "Letters are kept as capitals."
unfoldable pub capital : ℕ → ℕ
capital b = cond (ltb b 97) b (b - 32)

-- a letter and `:`
unfoldable pub drive : List ℕ → Bool
drive t = cond (is_letter (get_or t 0 0)) (eqb (get_or t 1 0) 58) false

-- "a letter and `:` follow and then the end or either separator"
unfoldable pub drive_exact : List ℕ → Bool
drive_exact t = cond (drive t) (cond (eqb (length t) 2) true (is_sep Windows (get_or t 2 0))) false

-- the name at the front of t, cut at a separator; t starts at place i
unfoldable pub name_of : (ℕ → Bool) → ℕ → List ℕ → Name
name_of sep i t = record { start = i; len = length (lead sep t) }

-- behind a separator at place a, of n bytes, if one stands there
unfoldable pub past : ℕ → ℕ → ℕ
past a n = cond (ltb a n) (a + 1) a

-- server and share, the two names at the front of t
unfoldable pub names_of : (ℕ → Bool) → ℕ → List ℕ → Names
names_of sep i t =
    record {
      server = record { start = i; len = length (lead sep t) };
      share =
          record {
            start = i + past (length (lead sep t)) (length t);
            len = length (lead sep (drop (past (length (lead sep t)) (length t)) t));
          };
    }

-- behind `\\?\`: "If bytes 4 to 7 are `UNC\` or `UNC/` (02, c), parsing goes on with the part behind the first eight bytes ..
-- Else, if a letter and `:` follow and then the end or either separator: VerbatimDisk. Else Verbatim(name up to `\`)."
unfoldable pub verbatim_of : List ℕ → Prefix
verbatim_of s =
    cond (begins (85 ∷ 78 ∷ 67 ∷ 92 ∷ []) (drop 4 s)) (VerbatimUnc (names_of (is_sep OnlyBack) 8 (drop 8 s)))
    (cond (drive_exact (drop 4 s)) (VerbatimDisk (capital (get_or s 4 0)))
    (Verbatim (name_of (is_sep OnlyBack) 4 (drop 4 s))))

-- "UNC(server, share) if both are nonempty, otherwise no prefix at all"
abbrev pub both_of : Names → Option Prefix
both_of n = cond (eqb n.server.len 0) None (cond (eqb n.share.len 0) None (Some (Unc n)))

unfoldable pub unc_of : List ℕ → Option Prefix
unc_of t = both_of (names_of (is_sep Windows) 2 t)

-- behind `\\`: "then `?\`, and none of the first four bytes is really `/`"
unfoldable pub is_verbatim : List ℕ → Bool
is_verbatim s = cond (begins (63 ∷ 92 ∷ []) (drop 2 s)) (not (slashed (take 4 s))) false

-- "Starts `\\` then `.\`: DeviceNS(name up to either separator). Else starts `\\`: UNC .."
unfoldable pub device_of : List ℕ → Option Prefix
device_of s = cond (begins (46 ∷ 92 ∷ []) (drop 2 s)) (Some (DeviceNs (name_of (is_sep Windows) 4 (drop 4 s)))) (unc_of (drop 2 s))

-- "Starts `\\`, then `?\`, and none of the first four bytes is really `/`: verbatim .. No `\\` at the start: letter and `:` give Disk."
unfoldable pub prefix_of : List ℕ → Option Prefix
prefix_of s =
    cond (begins (92 ∷ 92 ∷ []) s)
    (cond (is_verbatim s) (Some (verbatim_of s)) (device_of s))
    (cond (drive s) (Some (Disk (capital (get_or s 0 0)))) None)

-- "Unix mode has none."
abbrev pub prefix_in : Seps → List ℕ → Option Prefix
prefix_in Unix s = None
prefix_in Windows s = prefix_of s
prefix_in OnlyBack s = None

-- "VerbatimUNC 8 + server, and 1 + share if the share is nonempty"
abbrev pub share_len : ℕ → ℕ
share_len n = cond (eqb n 0) 0 (1 + n)

-- "Lengths: Verbatim and DeviceNS 4 + name; VerbatimUNC ..; UNC 2 + server + 1 + share; VerbatimDisk 6; Disk 2."
abbrev pub len_of : Prefix → ℕ
len_of (Verbatim n) = 4 + n.len
len_of (VerbatimUnc n) = 8 + n.server.len + share_len n.share.len
len_of (VerbatimDisk d) = 6
len_of (DeviceNs n) = 4 + n.len
len_of (Unc n) = 2 + n.server.len + 1 + n.share.len
len_of (Disk d) = 2

-- where the prefix ends, and 0 for none
abbrev pub end_of_prefix : Option Prefix → ℕ
end_of_prefix None = 0
end_of_prefix (Some p) = len_of p

-- there is one
abbrev pub has_prefix : Option Prefix → Bool
has_prefix None = false
has_prefix (Some p) = true

-- it is a Disk
abbrev pub is_disk : Prefix → Bool
is_disk (Verbatim n) = false
is_disk (VerbatimUnc n) = false
is_disk (VerbatimDisk d) = false
is_disk (DeviceNs n) = false
is_disk (Unc n) = false
is_disk (Disk d) = true

-- there is one, and it is a Disk
abbrev pub on_disk : Option Prefix → Bool
on_disk None = false
on_disk (Some p) = is_disk p

-- the numbers of a prefix: kinds from 1 in the order of document 01, the letter, the names
abbrev pub drive_figures : ℕ → ℕ → Figures
drive_figures k d = record { kind = k; letter = d; start1 = 0; len1 = 0; start2 = 0; len2 = 0 }

abbrev pub name_figures : ℕ → Name → Figures
name_figures k n = record { kind = k; letter = 0; start1 = n.start; len1 = n.len; start2 = 0; len2 = 0 }

abbrev pub names_figures : ℕ → Names → Figures
names_figures k n = record { kind = k; letter = 0; start1 = n.server.start; len1 = n.server.len; start2 = n.share.start; len2 = n.share.len }

abbrev pub figures_of : Prefix → Figures
figures_of (Verbatim n) = name_figures 1 n
figures_of (VerbatimUnc n) = names_figures 2 n
figures_of (VerbatimDisk d) = drive_figures 3 d
figures_of (DeviceNs n) = name_figures 4 n
figures_of (Unc n) = names_figures 5 n
figures_of (Disk d) = drive_figures 6 d

abbrev pub parsed_figures : Option Prefix → Figures
parsed_figures None = drive_figures 0 0
parsed_figures (Some p) = figures_of p
