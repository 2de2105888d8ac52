-- What no step has taken. Document 01, "Rest". l is the path's list, f and b how many were taken at the front and at the back.
use Rattle.std.specs.Prelude.{ℕ, ◌+◌, ◌-◌, List, Bool, true, false, cond, length, eqb, ltb, Option, Some, None}
use Rattle.octets.specs.declared.Seps.{Seps}
use Rattle.prefixes.specs.Prefix.{on_disk}
use Rattle.parts.specs.declared.Component.{Component}
use Rattle.parts.specs.declared.Component.TheVariants.{Prefix, RootDir, CurDir, ParentDir, Normal}
use Rattle.parts.specs.declared.Element.{Element}
use Rattle.parts.specs.Elements.{nth_of, nth_back_of, start_or, end_or}
use Rattle.components.specs.declared.Dir.{Dir}
use Rattle.components.specs.declared.Dir.TheVariants.{Bare, Root, Implied, Dot}
use Rattle.components.specs.declared.Start.{Start}
use Rattle.answers.specs.declared.View.{View}
use Rattle.answers.specs.Reply.{seen}
use Rattle.cursors.specs.declared.Span.{Span}
use Rattle.cursors.specs.declared.Left.{Left}
use Rattle.cursors.specs.declared.Left.TheVariants.{Beyond, Spent, More}
use Rattle.components.specs.List.{dot_at, start_of, list_of}

-- "more components taken than the path has"; "f + b equal to the list's length"; else some of the n are left
unfoldable pub left_of : ℕ → ℕ → ℕ → Left
left_of n f b = cond (ltb n (f + b)) Beyond (cond (eqb (f + b) n) Spent More)

abbrev pub span : ℕ → ℕ → Span
span a e = record { start = a; end = e }

-- as start and length
abbrev pub view_of : Span → View
view_of w = seen w.start (w.end - w.start)

abbrev pub prefix_kind : Component → Bool
prefix_kind (Prefix p) = true
prefix_kind RootDir = false
prefix_kind CurDir = false
prefix_kind ParentDir = false
prefix_kind Normal = false

abbrev pub is_prefix : Option Element → Bool
is_prefix None = false
is_prefix (Some p) = prefix_kind p.component

-- "Left end: 0 if f = 0; the prefix's end if only the prefix was taken; else the start of the first remaining component."
unfoldable pub left_end : List Element → ℕ → ℕ
left_end l f = cond (eqb f 0) 0 (cond (cond (eqb f 1) (is_prefix (nth_of l 0)) false) (end_or (nth_of l 0)) (start_or (nth_of l f)))

-- "Right end: the end of the last remaining component."
abbrev pub right_end : List Element → ℕ → ℕ
right_end l b = end_or (nth_back_of l b)

-- "Nothing remaining: an empty view at the end of the f-th component, or at 0 if f = 0."
unfoldable pub empty_at : List Element → ℕ → ℕ
empty_at l f = cond (eqb f 0) 0 (end_or (nth_of l (f - 1)))

-- "after a Disk prefix with no root, a first segment `.` belongs to no component"
abbrev pub is_bare : Dir → Bool
is_bare Bare = true
is_bare Root = false
is_bare Implied = false
is_bare Dot = false

unfoldable pub dotted : Start → List ℕ → Bool
dotted h s = cond (on_disk h.prefix) (cond (is_bare h.dir) (dot_at h.seps s h.end) false) false

-- "yet while f = 0, or f = 1, and no later component remains, the right end is behind that dot (not when a back step took the prefix)", of n
unfoldable pub behind_dot : Bool → ℕ → ℕ → ℕ → Bool
behind_dot d n f b = cond d (cond (ltb f 2) (eqb (b + 1) n) false) false

unfoldable pub rest_of : Bool → List Element → ℕ → ℕ → Span
rest_of d l f b =
    cond (behind_dot d (length l) f b) (span (left_end l f) (end_or (nth_of l 0) + 1))
    (cond (ltb (f + b) (length l)) (span (left_end l f) (right_end l b)) (span (empty_at l f) (empty_at l f)))

-- the rest of a path; none where more were taken than there are
unfoldable pub rest_asked : Seps → List ℕ → ℕ → ℕ → Option Span
rest_asked k s f b = cond (ltb (length (list_of k s)) (f + b)) None (Some (rest_of (dotted (start_of k s) s) (list_of k s) f b))
