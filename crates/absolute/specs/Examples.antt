-- E10, and the worked cases beside it.
use Rattle.std.specs.Prelude.{◌≡◌, refl, [], ◌∷◌}
use Rattle.octets.specs.Segment.{lead}
use Rattle.answers.specs.declared.Reply.TheVariants.{Empty, Base}
use Rattle.answers.specs.Outcome.{refuse, give, guard}
use Rattle.parts.specs.Body.{sort_by, rest, from}
use Rattle.components.specs.List.{sep_at, dot_at, dir_of, start_of, head_list, body_list, whole_of, list_of, has_root, is_absolute}
use Rattle.seams.specs.Seam.{wants, glued, seamed}
use Rattle.absolute.specs.Absolute.{two_slashes, start_for, one_by_one, ends, closed, finished, absolute_of}

-- `//a/./b/`; `///a`; `./` in `/w`; the empty path; `a` in `w`; `/a` in `w`
pub e10 :
    (absolute_of (47 ∷ 47 ∷ 97 ∷ 47 ∷ 46 ∷ 47 ∷ 98 ∷ 47 ∷ []) [] ≡ give (47 ∷ 47 ∷ 97 ∷ 47 ∷ 98 ∷ 47 ∷ []))
    × (absolute_of (47 ∷ 47 ∷ 47 ∷ 97 ∷ []) [] ≡ give (47 ∷ 97 ∷ []))
    × (absolute_of (46 ∷ 47 ∷ []) (47 ∷ 119 ∷ []) ≡ give (47 ∷ 119 ∷ 47 ∷ []))
    × (absolute_of [] [] ≡ refuse Empty)
    × (absolute_of (97 ∷ []) (119 ∷ []) ≡ refuse Base)
    × (absolute_of (47 ∷ 97 ∷ []) (119 ∷ []) ≡ give (47 ∷ 97 ∷ []))
unfolding lead guard sort_by rest from sep_at dot_at dir_of start_of head_list body_list whole_of list_of has_root is_absolute wants glued seamed two_slashes start_for one_by_one ends closed finished absolute_of
e10 = (refl, refl, refl, refl, refl, refl)
