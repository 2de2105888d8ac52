-- Worked examples of the views.
use Rattle.std.specs.Prelude.{◌≡◌, refl, [], ◌∷◌}
use Rattle.octets.specs.Class.{class_of, is_letter}
use Rattle.octets.specs.Segment.{lead}
use Rattle.octets.specs.declared.Seps.TheVariants.{Unix, Windows}
use Rattle.answers.specs.declared.Reply.TheVariants.{Absent}
use Rattle.answers.specs.Reply.{seen}
use Rattle.answers.specs.Outcome.{refuse, give, guard}
use Rattle.prefixes.specs.Prefix.{turned, begins, capital, drive, prefix_of}
use Rattle.parts.specs.Body.{sort_by, rest, from}
use Rattle.parts.specs.Elements.{nth_of, nth_back_of}
use Rattle.components.specs.List.{sep_at, dot_at, dir_of, start_of, head_list, body_list, whole_of, list_of}
use Rattle.cursors.specs.Rest.{dotted, behind_dot, left_end, empty_at, rest_of}
use Rattle.views.specs.Views.{climbs, rest_back, parent_of, ancestor_of, last_name, has_dot, last_dot, of_name, whole_seen, stem_seen, extension_seen, file_name_of, file_stem_of, extension_of}

-- Parents: `/a/`: `/`; `/`: none; `a`: empty, at 0; empty: none; `./a`: `.`; W `C:.\a`: `C:.`; W `C:.`: none; W `C:a`: `C:`
pub parents :
    (parent_of Unix (47 ∷ 97 ∷ 47 ∷ []) ≡ give (seen 0 1))
    × (parent_of Unix (47 ∷ []) ≡ refuse Absent)
    × (parent_of Unix (97 ∷ []) ≡ give (seen 0 0))
    × (parent_of Unix [] ≡ refuse Absent)
    × (parent_of Unix (46 ∷ 47 ∷ 97 ∷ []) ≡ give (seen 0 1))
    × (parent_of Windows (67 ∷ 58 ∷ 46 ∷ 92 ∷ 97 ∷ []) ≡ give (seen 0 3))
    × (parent_of Windows (67 ∷ 58 ∷ 46 ∷ []) ≡ refuse Absent)
    × (parent_of Windows (67 ∷ 58 ∷ 97 ∷ []) ≡ give (seen 0 2))
unfolding parent_of guard rest_back dotted rest_of behind_dot left_end empty_at prefix_of turned begins capital drive class_of is_letter lead sort_by rest from nth_of nth_back_of sep_at dot_at dir_of start_of head_list body_list whole_of list_of
parents = (refl, refl, refl, refl, refl, refl, refl, refl)

-- Ancestors of `a//b/`: itself, untrimmed; `a`; empty; none. The empty path is its own ancestor 0.
pub ancestors :
    (ancestor_of 0 Unix (97 ∷ 47 ∷ 47 ∷ 98 ∷ 47 ∷ []) ≡ give (seen 0 5))
    × (ancestor_of 1 Unix (97 ∷ 47 ∷ 47 ∷ 98 ∷ 47 ∷ []) ≡ give (seen 0 1))
    × (ancestor_of 2 Unix (97 ∷ 47 ∷ 47 ∷ 98 ∷ 47 ∷ []) ≡ give (seen 0 0))
    × (ancestor_of 3 Unix (97 ∷ 47 ∷ 47 ∷ 98 ∷ 47 ∷ []) ≡ refuse Absent)
    × (ancestor_of 0 Unix [] ≡ give (seen 0 0))
unfolding ancestor_of rest_back climbs guard dotted rest_of behind_dot left_end empty_at lead sort_by rest from nth_of nth_back_of sep_at dot_at dir_of start_of head_list body_list whole_of list_of
ancestors = (refl, refl, refl, refl, refl)

-- Names: of `.bashrc` all is stem; of `a.` the extension is there and empty, behind the dot; `.a.b` is `.a` and `b`; `...` is
-- `..` and empty; `..` is no name
pub names :
    (file_stem_of Unix (46 ∷ 98 ∷ 97 ∷ 115 ∷ 104 ∷ 114 ∷ 99 ∷ []) ≡ give (seen 0 7))
    × (extension_of Unix (46 ∷ 98 ∷ 97 ∷ 115 ∷ 104 ∷ 114 ∷ 99 ∷ []) ≡ refuse Absent)
    × (file_stem_of Unix (97 ∷ 46 ∷ []) ≡ give (seen 0 1))
    × (extension_of Unix (97 ∷ 46 ∷ []) ≡ give (seen 2 0))
    × (file_stem_of Unix (46 ∷ 97 ∷ 46 ∷ 98 ∷ []) ≡ give (seen 0 2))
    × (extension_of Unix (46 ∷ 97 ∷ 46 ∷ 98 ∷ []) ≡ give (seen 3 1))
    × (file_stem_of Unix (46 ∷ 46 ∷ 46 ∷ []) ≡ give (seen 0 2))
    × (extension_of Unix (46 ∷ 46 ∷ 46 ∷ []) ≡ give (seen 3 0))
    × (file_name_of Unix (97 ∷ 47 ∷ 46 ∷ 46 ∷ []) ≡ refuse Absent)
    × (file_name_of Windows (67 ∷ 58 ∷ 97 ∷ 92 ∷ 98 ∷ 99 ∷ 47 ∷ []) ≡ give (seen 4 2))
unfolding of_name whole_seen stem_seen extension_seen last_name has_dot last_dot guard prefix_of turned begins capital drive class_of is_letter lead sort_by rest from nth_of nth_back_of sep_at dot_at dir_of start_of head_list body_list whole_of list_of
names = (refl, refl, refl, refl, refl, refl, refl, refl, refl, refl)
