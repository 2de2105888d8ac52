-- E12, and others.
use Rattle.std.specs.Prelude.{◌≡◌, refl, [], ◌∷◌}
use Rattle.octets.specs.Class.{class_of, is_letter}
use Rattle.octets.specs.Segment.{lead}
use Rattle.answers.specs.declared.Reply.TheVariants.{Room}
use Rattle.answers.specs.Reply.{refused_view, seen}
use Rattle.answers.specs.Outcome.{give}
use Rattle.answers.specs.Written.{answered}
use Rattle.prefixes.specs.Prefix.{turned, begins, slashed, capital, drive, drive_exact, past, name_of, names_of, is_verbatim, verbatim_of, unc_of, device_of, prefix_of}
use Rattle.parts.specs.Body.{sort_by, rest, from}
use Rattle.components.specs.List.{sep_at, dot_at, dir_of, start_of, head_list, body_list, whole_of, list_of}
use Rattle.verbatim.specs.Verbatim.{spellings_of, popped, laid, written, verbatim_join}

-- E12 `\\?\C:\a` join `long\..\b`: `\\?\C:\a\b`, in 10 bytes of room and in 9; `\\?\C:/a` join `\`: `\\?\C:\`; `\\?\C:` join `x`: `\\?\C:\x`;
-- `\\?\C:\a\\.` join `..\b`: `\\?\C:\a\.\b`; `\\?\x\..` join `../b`: `\\?\x\..\b`
pub e12 :
    (verbatim_join (92 ∷ 92 ∷ 63 ∷ 92 ∷ 67 ∷ 58 ∷ 92 ∷ 97 ∷ []) (108 ∷ 111 ∷ 110 ∷ 103 ∷ 92 ∷ 46 ∷ 46 ∷ 92 ∷ 98 ∷ []) ≡ 92 ∷ 92 ∷ 63 ∷ 92 ∷ 67 ∷ 58 ∷ 92 ∷ 97 ∷ 92 ∷ 98 ∷ [])
    × (answered 10 (give (verbatim_join (92 ∷ 92 ∷ 63 ∷ 92 ∷ 67 ∷ 58 ∷ 92 ∷ 97 ∷ []) (108 ∷ 111 ∷ 110 ∷ 103 ∷ 92 ∷ 46 ∷ 46 ∷ 92 ∷ 98 ∷ []))) ≡ seen 0 10)
    × (answered 9 (give (verbatim_join (92 ∷ 92 ∷ 63 ∷ 92 ∷ 67 ∷ 58 ∷ 92 ∷ 97 ∷ []) (108 ∷ 111 ∷ 110 ∷ 103 ∷ 92 ∷ 46 ∷ 46 ∷ 92 ∷ 98 ∷ []))) ≡ refused_view Room)
    × (verbatim_join (92 ∷ 92 ∷ 63 ∷ 92 ∷ 67 ∷ 58 ∷ 47 ∷ 97 ∷ []) (92 ∷ []) ≡ 92 ∷ 92 ∷ 63 ∷ 92 ∷ 67 ∷ 58 ∷ 92 ∷ [])
    × (verbatim_join (92 ∷ 92 ∷ 63 ∷ 92 ∷ 67 ∷ 58 ∷ []) (120 ∷ []) ≡ 92 ∷ 92 ∷ 63 ∷ 92 ∷ 67 ∷ 58 ∷ 92 ∷ 120 ∷ [])
    × (verbatim_join (92 ∷ 92 ∷ 63 ∷ 92 ∷ 67 ∷ 58 ∷ 92 ∷ 97 ∷ 92 ∷ 92 ∷ 46 ∷ []) (46 ∷ 46 ∷ 92 ∷ 98 ∷ []) ≡ 92 ∷ 92 ∷ 63 ∷ 92 ∷ 67 ∷ 58 ∷ 92 ∷ 97 ∷ 92 ∷ 46 ∷ 92 ∷ 98 ∷ [])
    × (verbatim_join (92 ∷ 92 ∷ 63 ∷ 92 ∷ 120 ∷ 92 ∷ 46 ∷ 46 ∷ []) (46 ∷ 46 ∷ 47 ∷ 98 ∷ []) ≡ 92 ∷ 92 ∷ 63 ∷ 92 ∷ 120 ∷ 92 ∷ 46 ∷ 46 ∷ 92 ∷ 98 ∷ [])
unfolding class_of is_letter lead answered turned begins slashed capital drive drive_exact past name_of names_of is_verbatim verbatim_of unc_of device_of prefix_of sort_by rest from sep_at dot_at dir_of start_of head_list body_list whole_of list_of spellings_of popped laid written verbatim_join
e12 = (refl, refl, refl, refl, refl, refl, refl)
