-- E11, E12, and others.
use Rattle.std.specs.Prelude.{◌≡◌, refl, [], ◌∷◌}
use Rattle.octets.specs.Class.{class_of, is_letter}
use Rattle.octets.specs.Segment.{lead}
use Rattle.octets.specs.declared.Seps.TheVariants.{Unix, Windows}
use Rattle.prefixes.specs.Prefix.{turned, begins, slashed, capital, drive, drive_exact, past, name_of, names_of, is_verbatim, verbatim_of, unc_of, device_of, prefix_of}
use Rattle.parts.specs.Body.{sort_by, rest, from}
use Rattle.components.specs.List.{sep_at, dot_at, dir_of, start_of, head_list, body_list, whole_of, list_of, has_root, is_absolute}
use Rattle.seams.specs.Seam.{wants}
use Rattle.verbatim.specs.Verbatim.{spellings_of, popped, laid, written, verbatim_join}
use Rattle.joins.specs.Join.{mended, mere_disk, parted, joined}

-- E11 W `C:` join `x`: `C:x`; `C:a` join `\b`: `C:\b`; E12 W `\\?\C:\a` join `long\..\b`: `\\?\C:\a\b`;
-- U `a` join empty: `a/`; W `\\?\C:` join empty: `\\?\C:\`; W `C:\a` join `d:b`: `d:b`
pub examples :
    (joined Windows (67 ∷ 58 ∷ []) (120 ∷ []) ≡ 67 ∷ 58 ∷ 120 ∷ [])
    × (joined Windows (67 ∷ 58 ∷ 97 ∷ []) (92 ∷ 98 ∷ []) ≡ 67 ∷ 58 ∷ 92 ∷ 98 ∷ [])
    × (joined Windows (92 ∷ 92 ∷ 63 ∷ 92 ∷ 67 ∷ 58 ∷ 92 ∷ 97 ∷ []) (108 ∷ 111 ∷ 110 ∷ 103 ∷ 92 ∷ 46 ∷ 46 ∷ 92 ∷ 98 ∷ []) ≡ 92 ∷ 92 ∷ 63 ∷ 92 ∷ 67 ∷ 58 ∷ 92 ∷ 97 ∷ 92 ∷ 98 ∷ [])
    × (joined Unix (97 ∷ []) [] ≡ 97 ∷ 47 ∷ [])
    × (joined Windows (92 ∷ 92 ∷ 63 ∷ 92 ∷ 67 ∷ 58 ∷ []) [] ≡ 92 ∷ 92 ∷ 63 ∷ 92 ∷ 67 ∷ 58 ∷ 92 ∷ [])
    × (joined Windows (67 ∷ 58 ∷ 92 ∷ 97 ∷ []) (100 ∷ 58 ∷ 98 ∷ []) ≡ 100 ∷ 58 ∷ 98 ∷ [])
unfolding class_of is_letter lead turned begins slashed capital drive drive_exact past name_of names_of is_verbatim verbatim_of unc_of device_of prefix_of sort_by rest from sep_at dot_at dir_of start_of head_list body_list whole_of list_of has_root is_absolute wants spellings_of popped laid written verbatim_join mended mere_disk parted joined
examples = (refl, refl, refl, refl, refl, refl)
