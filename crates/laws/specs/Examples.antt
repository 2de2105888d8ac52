-- The checked examples of document 01, E1 to E13 as one statement over the set, and its edges as another. Every definition computes, so each
-- is `refl`, save where it speaks of every buffer or of every path of a length.
use Rattle.std.specs.Prelude.{ℕ, ◌≡◌, refl, List, [], ◌∷◌, length}
use Rattle.std.proofs.Common.{arith, sym, lt-ltb, le-ltb}
use Rattle.octets.specs.Class.{class_of, is_letter, limit, seps_of}
use Rattle.octets.specs.Segment.{lead}
use Rattle.octets.specs.declared.Seps.TheVariants.{Unix, Windows}
use Rattle.answers.specs.declared.Reply.TheVariants.{Length, Absent, Room}
use Rattle.answers.specs.Reply.{refused_view, seen}
use Rattle.answers.specs.Outcome.{Outcome, refuse, give, guard, short}
use Rattle.answers.specs.Written.{Wrote}
use Rattle.buffers.specs.Laws.{over_whole, no_room, filled}
use Rattle.prefixes.specs.declared.Name.{Name}
use Rattle.prefixes.specs.declared.Names.{Names}
use Rattle.prefixes.specs.declared.Prefix.TheVariants.{Verbatim, VerbatimUnc, Unc, Disk}
use Rattle.prefixes.specs.Prefix.{turned, begins, slashed, capital, drive, drive_exact, past, name_of, names_of, is_verbatim, verbatim_of, unc_of, device_of, prefix_of}
use Rattle.parts.specs.declared.Component.{Component}
use Rattle.parts.specs.declared.Component.TheVariants.{Prefix, RootDir, CurDir, ParentDir, Normal}
use Rattle.parts.specs.declared.Element.{Element}
use Rattle.parts.specs.Body.{sort_by, rest, from}
use Rattle.parts.specs.Elements.{nth_of, nth_back_of}
use Rattle.components.specs.List.{sep_at, dot_at, dir_of, start_of, head_list, body_list, whole_of, list_of, has_root, is_absolute}
use Rattle.cursors.specs.Rest.{left_end, empty_at, dotted, behind_dot, rest_of}
use Rattle.views.specs.Views.{last_name, has_dot, last_dot, of_name, stem_seen, extension_seen, file_stem_of, extension_of}
use Rattle.seams.specs.Seam.{wants, glued, seamed}
use Rattle.verbatim.specs.Verbatim.{spellings_of, popped, laid, written, verbatim_join}
use Rattle.joins.specs.Join.{mended, mere_disk, parted, joined}
use Rattle.absolute.specs.Absolute.{two_slashes, start_for, one_by_one, ends, closed, finished, absolute_of}
use Rattle.paths.specs.Steps.{rest_for}
use Rattle.paths.specs.Pairs.{pair_call}
use Rattle.paths.specs.Writes.{join_call}

abbrev at : Component → ℕ → ℕ → Element
at c i n = record { component = c; start = i; len = n }

abbrev name : ℕ → ℕ → Name
name i n = record { start = i; len = n }

abbrev pair : Name → Name → Names
pair a b = record { server = a; share = b }

-- E12's join, of `\\?\C:\a` and `long\..\b`, and what it leaves, `\\?\C:\a\b`
abbrev joined12 : Outcome (List ℕ)
joined12 = join_call 1 (92 ∷ 92 ∷ 63 ∷ 92 ∷ 67 ∷ 58 ∷ 92 ∷ 97 ∷ []) (108 ∷ 111 ∷ 110 ∷ 103 ∷ 92 ∷ 46 ∷ 46 ∷ 92 ∷ 98 ∷ [])

abbrev left12 : List ℕ
left12 = 92 ∷ 92 ∷ 63 ∷ 92 ∷ 67 ∷ 58 ∷ 92 ∷ 97 ∷ 92 ∷ 98 ∷ []

result12 : joined12 ≡ give left12
unfolding pair_call guard seps_of class_of is_letter lead turned begins slashed capital drive drive_exact past name_of names_of is_verbatim verbatim_of unc_of device_of prefix_of sort_by rest from sep_at dot_at dir_of start_of head_list body_list whole_of list_of has_root is_absolute wants spellings_of popped laid written verbatim_join mended mere_disk parted joined
result12 = refl

-- in a buffer of 10 bytes, and in one of 9; no other answer or buffer meets the promise (`one_buffer` of Unique.antt)
fits12 : (before : List ℕ) → length before ≡ 10 → Wrote joined12 (seen 0 10) before left12
fits12 before e = rw result12 (filled (omega arith) refl (sym (over_whole left12 before (sym e))))

full12 : (before : List ℕ) → length before ≡ 9 → Wrote joined12 (refused_view Room) before before
full12 before e = rw result12 (no_room (omega arith))

pub examples :
    -- E1 U `/a//./b/`: RootDir, a, b
    (list_of Unix (47 ∷ 97 ∷ 47 ∷ 47 ∷ 46 ∷ 47 ∷ 98 ∷ 47 ∷ []) ≡ at RootDir 0 1 ∷ at Normal 1 1 ∷ at Normal 6 1 ∷ [])
    -- E2 U `./a/../b/.`: CurDir, a, ParentDir, b
    × (list_of Unix (46 ∷ 47 ∷ 97 ∷ 47 ∷ 46 ∷ 46 ∷ 47 ∷ 98 ∷ 47 ∷ 46 ∷ []) ≡ at CurDir 0 1 ∷ at Normal 2 1 ∷ at ParentDir 4 2 ∷ at Normal 7 1 ∷ [])
    -- E3 either, empty: no components
    × (list_of Unix [] ≡ [])
    × (list_of Windows [] ≡ [])
    -- E4 W `c:\a`: Disk C, RootDir, a
    × (list_of Windows (99 ∷ 58 ∷ 92 ∷ 97 ∷ []) ≡ at (Prefix (Disk 67)) 0 2 ∷ at RootDir 2 1 ∷ at Normal 3 1 ∷ [])
    -- E5 W `C:.`, one front step: rest `.`
    × (rest_for Windows (67 ∷ 58 ∷ 46 ∷ []) 1 0 ≡ give (seen 2 1))
    -- E6 W `//?/C:/x`: UNC(`?`, `C:`), RootDir, x
    × (list_of Windows (47 ∷ 47 ∷ 63 ∷ 47 ∷ 67 ∷ 58 ∷ 47 ∷ 120 ∷ []) ≡ at (Prefix (Unc (pair (name 2 1) (name 4 2)))) 0 6 ∷ at RootDir 6 1 ∷ at Normal 7 1 ∷ [])
    -- E7 W `\\?\C:x\y`: Verbatim(`C:x`), RootDir, y
    × (list_of Windows (92 ∷ 92 ∷ 63 ∷ 92 ∷ 67 ∷ 58 ∷ 120 ∷ 92 ∷ 121 ∷ []) ≡ at (Prefix (Verbatim (name 4 3))) 0 7 ∷ at RootDir 7 1 ∷ at Normal 8 1 ∷ [])
    -- E8 W `\\server`: RootDir, server
    × (list_of Windows (92 ∷ 92 ∷ 115 ∷ 101 ∷ 114 ∷ 118 ∷ 101 ∷ 114 ∷ []) ≡ at RootDir 0 1 ∷ at Normal 2 6 ∷ [])
    -- E9 W `\\?\UNC\`: VerbatimUNC, both names empty
    × (list_of Windows (92 ∷ 92 ∷ 63 ∷ 92 ∷ 85 ∷ 78 ∷ 67 ∷ 92 ∷ []) ≡ at (Prefix (VerbatimUnc (pair (name 8 0) (name 8 0)))) 0 8 ∷ [])
    -- E10 U absolute `//a/./b/`: `//a/b/`; `///a`: `/a`; in any current directory
    × ((cwd : List ℕ) → absolute_of (47 ∷ 47 ∷ 97 ∷ 47 ∷ 46 ∷ 47 ∷ 98 ∷ 47 ∷ []) cwd ≡ give (47 ∷ 47 ∷ 97 ∷ 47 ∷ 98 ∷ 47 ∷ []))
    × ((cwd : List ℕ) → absolute_of (47 ∷ 47 ∷ 47 ∷ 97 ∷ []) cwd ≡ give (47 ∷ 97 ∷ []))
    -- E11 W `C:` join `x`: `C:x`; `C:a` join `\b`: `C:\b`
    × (joined Windows (67 ∷ 58 ∷ []) (120 ∷ []) ≡ 67 ∷ 58 ∷ 120 ∷ [])
    × (joined Windows (67 ∷ 58 ∷ 97 ∷ []) (92 ∷ 98 ∷ []) ≡ 67 ∷ 58 ∷ 92 ∷ 98 ∷ [])
    -- E12 W `\\?\C:\a` join `long\..\b`, 10 bytes of room: `\\?\C:\a\b`; with 9: Room
    × ((before : List ℕ) → length before ≡ 10 → Wrote joined12 (seen 0 10) before left12)
    × ((before : List ℕ) → length before ≡ 9 → Wrote joined12 (refused_view Room) before before)
    -- E13 W `\\?\UNC/s\h`: VerbatimUNC(`s`, `h`), length 11, one component; `\\?/UNC\s\h`: UNC(`?`, `UNC`), RootDir, s, h; `\\?\unc\s\h`: Verbatim(`unc`), RootDir, s, h
    × (list_of Windows (92 ∷ 92 ∷ 63 ∷ 92 ∷ 85 ∷ 78 ∷ 67 ∷ 47 ∷ 115 ∷ 92 ∷ 104 ∷ []) ≡ at (Prefix (VerbatimUnc (pair (name 8 1) (name 10 1)))) 0 11 ∷ [])
    × (list_of Windows (92 ∷ 92 ∷ 63 ∷ 47 ∷ 85 ∷ 78 ∷ 67 ∷ 92 ∷ 115 ∷ 92 ∷ 104 ∷ []) ≡ at (Prefix (Unc (pair (name 2 1) (name 4 3)))) 0 7 ∷ at RootDir 7 1 ∷ at Normal 8 1 ∷ at Normal 10 1 ∷ [])
    × (list_of Windows (92 ∷ 92 ∷ 63 ∷ 92 ∷ 117 ∷ 110 ∷ 99 ∷ 92 ∷ 115 ∷ 92 ∷ 104 ∷ []) ≡ at (Prefix (Verbatim (name 4 3))) 0 7 ∷ at RootDir 7 1 ∷ at Normal 8 1 ∷ at Normal 10 1 ∷ [])
unfolding class_of is_letter lead guard turned begins slashed capital drive drive_exact past name_of names_of is_verbatim verbatim_of unc_of device_of prefix_of sort_by rest from nth_of nth_back_of sep_at dot_at dir_of start_of head_list body_list whole_of list_of has_root is_absolute rest_of left_end empty_at dotted behind_dot rest_for wants glued seamed mended mere_disk parted joined two_slashes start_for one_by_one ends closed finished absolute_of
examples = (refl, refl, refl, refl, refl, refl, refl, refl, refl, refl, λ cwd. refl, λ cwd. refl, refl, refl, fits12, full12, refl, refl, refl)

-- Edges
pub edges :
    -- 4,096 bytes accepted, 4,097 Length: the guard in front of every call, for each input
    ((A : Type 0) (s : List ℕ) (o : Outcome A) → length s ≡ 4096 → short s o ≡ o)
    × ((A : Type 0) (s : List ℕ) (o : Outcome A) → length s ≡ 4097 → short s o ≡ refuse Length)
    -- U `a` join empty is `a/`
    × (joined Unix (97 ∷ []) [] ≡ 97 ∷ 47 ∷ [])
    -- `.bashrc` is all stem
    × (file_stem_of Unix (46 ∷ 98 ∷ 97 ∷ 115 ∷ 104 ∷ 114 ∷ 99 ∷ []) ≡ give (seen 0 7))
    × (extension_of Unix (46 ∷ 98 ∷ 97 ∷ 115 ∷ 104 ∷ 114 ∷ 99 ∷ []) ≡ refuse Absent)
    × (file_stem_of Windows (46 ∷ 98 ∷ 97 ∷ 115 ∷ 104 ∷ 114 ∷ 99 ∷ []) ≡ give (seen 0 7))
    × (extension_of Windows (46 ∷ 98 ∷ 97 ∷ 115 ∷ 104 ∷ 114 ∷ 99 ∷ []) ≡ refuse Absent)
    -- U absolute `./` in `/w` is `/w/`
    × (absolute_of (46 ∷ 47 ∷ []) (47 ∷ 119 ∷ []) ≡ give (47 ∷ 119 ∷ 47 ∷ []))
unfolding class_of is_letter lead guard turned begins slashed capital drive drive_exact past name_of names_of is_verbatim verbatim_of unc_of device_of prefix_of sort_by rest from nth_of nth_back_of sep_at dot_at dir_of start_of head_list body_list whole_of list_of has_root is_absolute wants glued seamed mended mere_disk parted joined two_slashes start_for one_by_one ends closed finished absolute_of last_name has_dot last_dot of_name stem_seen extension_seen
edges = (λ A s o e. rw (le-ltb limit (length s) (omega arith)), λ A s o e. rw (lt-ltb limit (length s) (omega arith)), refl, refl, refl, refl, refl, refl)
