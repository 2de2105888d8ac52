-- Worked examples of prefixes; and that behind `\\?\UNC` either separator, and no other byte, leads to a server and a share.
use Rattle.std.specs.Prelude.{ℕ, ◌≡◌, refl, List, [], ◌∷◌, cond, eqb, Some, None}
use Rattle.octets.specs.Class.{class_of, is_letter, is_sep}
use Rattle.octets.specs.Segment.{lead}
use Rattle.octets.specs.Laws.{split}
use Rattle.octets.specs.declared.Seps.TheVariants.{Windows, Verbatim as OnlyBack}
use Rattle.prefixes.specs.declared.Name.{Name}
use Rattle.prefixes.specs.declared.Names.{Names}
use Rattle.prefixes.specs.declared.Prefix.TheVariants.{Verbatim, VerbatimUnc, VerbatimDisk, DeviceNs, Unc, Disk}
use Rattle.prefixes.specs.Prefix.{turned, begins, slashed, capital, drive, drive_exact, past, name_of, names_of, is_verbatim, verbatim_of, unc_of, device_of, prefix_of}

abbrev at : ℕ → ℕ → Name
at i n = record { start = i; len = n }

abbrev pair : Name → Name → Names
pair a b = record { server = a; share = b }

-- E4 `c:\a`: Disk C; E6 `//?/C:/x`: UNC(`?`, `C:`); E7 `\\?\C:x\y`: Verbatim(`C:x`); E8 `\\server`: none;
-- E9 `\\?\UNC\`: VerbatimUNC, both names empty; E13 `\\?\UNC/s\h`: VerbatimUNC(s, h); `\\?\C:`: VerbatimDisk C; `\\.\COM1/x`: DeviceNS(COM1)
pub examples :
    (prefix_of (99 ∷ 58 ∷ 92 ∷ 97 ∷ []) ≡ Some (Disk 67))
    × (prefix_of (47 ∷ 47 ∷ 63 ∷ 47 ∷ 67 ∷ 58 ∷ 47 ∷ 120 ∷ []) ≡ Some (Unc (pair (at 2 1) (at 4 2))))
    × (prefix_of (92 ∷ 92 ∷ 63 ∷ 92 ∷ 67 ∷ 58 ∷ 120 ∷ 92 ∷ 121 ∷ []) ≡ Some (Verbatim (at 4 3)))
    × (prefix_of (92 ∷ 92 ∷ 115 ∷ 101 ∷ 114 ∷ 118 ∷ 101 ∷ 114 ∷ []) ≡ None)
    × (prefix_of (92 ∷ 92 ∷ 63 ∷ 92 ∷ 85 ∷ 78 ∷ 67 ∷ 92 ∷ []) ≡ Some (VerbatimUnc (pair (at 8 0) (at 8 0))))
    × (prefix_of (92 ∷ 92 ∷ 63 ∷ 92 ∷ 85 ∷ 78 ∷ 67 ∷ 47 ∷ 115 ∷ 92 ∷ 104 ∷ []) ≡ Some (VerbatimUnc (pair (at 8 1) (at 10 1))))
    × (prefix_of (92 ∷ 92 ∷ 63 ∷ 92 ∷ 67 ∷ 58 ∷ []) ≡ Some (VerbatimDisk 67))
    × (prefix_of (92 ∷ 92 ∷ 46 ∷ 92 ∷ 67 ∷ 79 ∷ 77 ∷ 49 ∷ 47 ∷ 120 ∷ []) ≡ Some (DeviceNs (at 4 4)))
unfolding prefix_of is_verbatim verbatim_of unc_of device_of turned begins slashed capital drive drive_exact past name_of names_of lead class_of is_letter
examples = (refl, refl, refl, refl, refl, refl, refl, refl)

-- behind `\\?\UNC` byte 7 decides, whatever follows: "If bytes 4 to 7 are `UNC\` or `UNC/` (02, c), parsing goes on with the part behind
-- the first eight bytes: VerbatimUNC(server, share) .. Else Verbatim(name up to `\`)."
pub unc_either : (b : ℕ) (t : List ℕ) → prefix_of (92 ∷ 92 ∷ 63 ∷ 92 ∷ 85 ∷ 78 ∷ 67 ∷ b ∷ t)
    ≡ Some (cond (is_sep Windows b) (VerbatimUnc (names_of (is_sep OnlyBack) 8 t)) (Verbatim (name_of (is_sep OnlyBack) 4 (85 ∷ 78 ∷ 67 ∷ b ∷ t))))
unfolding prefix_of is_verbatim verbatim_of turned begins slashed drive drive_exact is_letter class_of
unc_either b t = split (eqb b 47) (λ y. rw y) (λ n. split (eqb b 92) (λ h. rw (n, h)) (λ h. rw (n, h)))
