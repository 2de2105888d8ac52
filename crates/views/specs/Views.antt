-- Views over a path's list. Document 01, "Views over the list"; for the right end of what remains, "Rest".
use Rattle.std.specs.Prelude.{ℕ, zero, suc, ◌+◌, ◌-◌, List, [], ◌∷◌, Bool, true, false, not, cond, length, take, drop, eqb, Option, Some, None}
use Rattle.octets.specs.declared.Seps.{Seps}
use Rattle.answers.specs.declared.Reply.TheVariants.{Absent}
use Rattle.answers.specs.declared.View.{View}
use Rattle.answers.specs.Reply.{seen}
use Rattle.answers.specs.Outcome.{Outcome, refuse, give, present}
use Rattle.parts.specs.declared.Component.{Component}
use Rattle.parts.specs.declared.Component.TheVariants.{Prefix, RootDir, CurDir, ParentDir, Normal}
use Rattle.parts.specs.declared.Element.{Element}
use Rattle.parts.specs.Elements.{nth_back_of}
use Rattle.components.specs.List.{start_of, list_of}
use Rattle.cursors.specs.Rest.{view_of, dotted, rest_of}

-- "if that component is Normal, CurDir or ParentDir"
abbrev pub leaves_kind : Component → Bool
leaves_kind (Prefix p) = false
leaves_kind RootDir = false
leaves_kind CurDir = true
leaves_kind ParentDir = true
leaves_kind Normal = true

abbrev pub leaves : Option Element → Bool
leaves None = false
leaves (Some p) = leaves_kind p.component

-- the last n components are all such, and there are as many
unfoldable pub climbs : List Element → ℕ → Bool
climbs l zero = true
climbs l (suc n) = cond (climbs l n) (leaves (nth_back_of l n)) false

-- the rest after n back steps: f = 0, b = n
unfoldable pub rest_back : Seps → List ℕ → ℕ → View
rest_back k s n = view_of (rest_of (dotted (start_of k s) s) (list_of k s) 0 n)

-- "Parent: the rest after one back step, if that component is Normal, CurDir or ParentDir."
unfoldable pub parent_of : Seps → List ℕ → Outcome View
parent_of k s = present (leaves (nth_back_of (list_of k s) 0)) (give (rest_back k s 1))

-- "Ancestors, asked by a number: 0 is the path itself untrimmed, each next one the parent of the one before, Absent once
-- there is none.": here by the list; the sentence itself, over the path's bytes, is `next_one` of Ancestors.antt
unfoldable pub ancestor_of : ℕ → Seps → List ℕ → Outcome View
ancestor_of n k s = cond (eqb n 0) (give (seen 0 (length s))) (present (climbs (list_of k s) n) (give (rest_back k s n)))

-- ---- names

-- "File name: the last component if Normal."
abbrev pub is_normal : Component → Bool
is_normal (Prefix p) = false
is_normal RootDir = false
is_normal CurDir = false
is_normal ParentDir = false
is_normal Normal = true

abbrev pub if_normal : Option Element → Option Element
if_normal None = None
if_normal (Some p) = cond (is_normal p.component) (Some p) None

unfoldable pub last_name : Seps → List ℕ → Option Element
last_name k s = if_normal (nth_back_of (list_of k s) 0)

-- w has a dot
unfoldable pub has_dot : List ℕ → Bool
has_dot [] = false
has_dot (x ∷ w) = cond (eqb x 46) true (has_dot w)

-- the place of the last dot of w, and 0 if there is none
unfoldable pub last_dot : List ℕ → ℕ
last_dot [] = 0
last_dot (x ∷ w) = cond (has_dot w) (suc (last_dot w)) 0

-- that of the bytes of an element
abbrev pub dot_of : List ℕ → Element → ℕ
dot_of s p = last_dot (take p.len (drop p.start s))

-- what f makes of the file name's element; Absent where there is none
abbrev pub on_item : Option Element → (Element → Outcome View) → Outcome View
on_item None f = refuse Absent
on_item (Some p) f = f p

unfoldable pub of_name : (List ℕ → Element → Outcome View) → Seps → List ℕ → Outcome View
of_name f k s = on_item (last_name k s) (f s)

unfoldable pub whole_seen : List ℕ → Element → Outcome View
whole_seen s p = give (seen p.start p.len)

-- "Split at its last dot; if there is no dot, or nothing before it, all is stem and there is no extension. `a.` has the
-- extension .. (present, empty)."
unfoldable pub stem_seen : List ℕ → Element → Outcome View
stem_seen s p = give (seen p.start (cond (eqb (dot_of s p) 0) p.len (dot_of s p)))

unfoldable pub extension_seen : List ℕ → Element → Outcome View
extension_seen s p = present (not (eqb (dot_of s p) 0)) (give (seen (p.start + dot_of s p + 1) (p.len - (dot_of s p + 1))))

abbrev pub file_name_of : Seps → List ℕ → Outcome View
file_name_of = of_name whole_seen

abbrev pub file_stem_of : Seps → List ℕ → Outcome View
file_stem_of = of_name stem_seen

abbrev pub extension_of : Seps → List ℕ → Outcome View
extension_of = of_name extension_seen
