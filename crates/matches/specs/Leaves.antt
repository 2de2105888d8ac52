-- What the leaves promise and the loops keep. Nothing here has to be believed: the public promises do not name it.
use Rattle.std.specs.Prelude.{ℕ, ◌+◌, ◌≤◌, ◌≡◌, List, ◌++◌, Bool, true, false, cond, length, drop, eqb, Option, Some, None}
use Rattle.octets.specs.Class.{is_sep}
use Rattle.octets.specs.declared.Seps.{Seps}
use Rattle.prefixes.specs.Prefix.{parsed_figures}
use Rattle.prefixes.specs.Leaves.{NamesIn}
use Rattle.parts.specs.declared.Element.{Element}
use Rattle.parts.specs.declared.Kind.{Kind}
use Rattle.parts.specs.declared.Kind.TheVariants.{Dot, DotDot, Name}
use Rattle.parts.specs.Body.{dots, from}
use Rattle.parts.specs.Elements.{nth_of, nth_back_of, end_or, Upto}
use Rattle.components.specs.declared.Dir.TheVariants.{Bare, Dot as Here}
use Rattle.components.specs.declared.Start.{Start}
use Rattle.components.specs.List.{list_of}
use Rattle.cursors.specs.Rest.{is_prefix, left_end, empty_at, dotted}
use Rattle.order.specs.declared.Heads.{Heads}
use Rattle.order.specs.declared.Heads.TheVariants.{Same, Apart, First, Second}
use Rattle.order.specs.Values.{Value, prefix_value, values_in}
use Rattle.order.specs.Leaves.{lead_kind}
use Rattle.order.specs.Leaves.{dir_rank, head_values, body_values, is_nil}
use Rattle.matches.specs.declared.After.{After}
use Rattle.matches.specs.declared.After.TheVariants.{Off, Head, Body}
use Rattle.matches.specs.Match.{same, starts_with, starts_of}
use Rattle.prefixes.specs.declared.Prefix.{Prefix}

-- the first of two lists that meet so starts with the second
abbrev pub is_base : Heads → Bool
is_base Same = true
is_base (Apart o) = false
is_base First = true
is_base Second = false

-- the body of s from i on starts with that of t from j on
unfoldable pub starts_body : Seps → List ℕ → ℕ → Seps → List ℕ → ℕ → Bool
starts_body k s i h t j = starts_with (body_values k s i) (body_values h t j)

-- what the one leaves of the other
unfoldable pub left_body : Seps → List ℕ → ℕ → Seps → List ℕ → ℕ → List Element
left_body k s i h t j = drop (length (from (is_sep h) (dots h) t j)) (from (is_sep k) (dots k) s i)

pub record Behind (k : Seps) (s : List ℕ) (i : ℕ) (h : Seps) (t : List ℕ) (j x : ℕ) : Type 0 where
  pub starts : starts_body k s i h t j ≡ true
  pub left : left_body k s i h t j ≡ from (is_sep k) (dots k) s x

-- of bodies nothing is left to a head
abbrev pub BehindSays : Seps → List ℕ → ℕ → Seps → List ℕ → ℕ → After → Type 0
BehindSays k s i h t j Off = starts_body k s i h t j ≡ false
BehindSays k s i h t j (Head a) = ⊥
BehindSays k s i h t j (Body x) = Behind k s i h t j x

pub record BehindAt (k : Seps) (s : List ℕ) (i : ℕ) (h : Seps) (t : List ℕ) (j : ℕ) (r : After) : Type 0 where
  pub says : BehindSays k s i h t j r

-- t, whose head is h, is nothing, or nothing but a prefix
unfoldable pub lonely : List ℕ → Start → Bool
lonely t h = cond (eqb (dir_rank h.dir) 0) (is_nil (body_values h.seps t h.at)) false

-- where the rest starts behind at most a prefix that ends at e
abbrev pub head_start : Option Prefix → ℕ → ℕ
head_start None e = 0
head_start (Some p) e = e

-- t has at most one component, and leaves of s what starts at a, in or before the body
pub record AtHead (k : Seps) (s : List ℕ) (g : Start) (t : List ℕ) (a : ℕ) : Type 0 where
  pub starts : starts_of k s t ≡ true
  pub few : length (list_of k t) ≤ 1
  pub is : a ≡ left_end (list_of k s) (length (list_of k t))
  pub spent : a ≡ empty_at (list_of k s) (length (list_of k t))
  pub low : a ≤ g.at

-- t leaves of s the body from x on
pub record InBody (k : Seps) (s : List ℕ) (g : Start) (t : List ℕ) (x : ℕ) : Type 0 where
  pub starts : starts_of k s t ≡ true
  pub some : length (list_of k t) ≡ 0 → ⊥
  pub beyond : length (list_of k t) ≡ 1 → is_prefix (nth_of (list_of k s) 0) ≡ false
  pub left : drop (length (list_of k t)) (list_of k s) ≡ from (is_sep g.seps) (dots g.seps) s x

abbrev pub AfterSays : Seps → List ℕ → Start → List ℕ → After → Type 0
AfterSays k s g t Off = starts_of k s t ≡ false
AfterSays k s g t (Head a) = AtHead k s g t a
AfterSays k s g t (Body x) = InBody k s g t x

pub record AfterAt (k : Seps) (s : List ℕ) (g : Start) (t : List ℕ) (r : After) : Type 0 where
  pub says : AfterSays k s g t r

-- where the last component ends, or behind the dot of a lone Disk prefix
unfoldable pub last_of : Bool → List Element → ℕ
last_of d l = cond (cond d (eqb 1 (length l)) false) (end_or (nth_of l 0) + 1) (end_or (nth_back_of l 0))

pub record LastEnd (k : Seps) (s : List ℕ) (g : Start) (r : ℕ) : Type 0 where
  pub is : r ≡ last_of (dotted g s) (list_of k s)
  pub low : g.at ≤ r
  pub all : Upto r (list_of k s)

abbrev pub is_dot : Kind → Bool
is_dot Dot = true
is_dot DotDot = false
is_dot Name = false

-- what is known of the head g of s: its names lie in s, a dot stands in it alone, and without a head no dot stands first
pub record Begun (s : List ℕ) (g : Start) : Type 0 where
  pub names : NamesIn s (parsed_figures g.prefix)
  pub alone : g.dir ≡ Here → g.prefix ≡ None
  pub lead : g.prefix ≡ None → g.dir ≡ Bare → 4 ≤ lead_kind (body_values g.seps s g.at)

abbrev pub same_prefix : List ℕ → List ℕ → Option Prefix → Option Prefix → Bool
same_prefix s t None q = false
same_prefix s t (Some p) q = same (prefix_value s (parsed_figures (Some p))) (prefix_value t (parsed_figures q))

-- the values of the head g of s, and of what is left of its body, l
unfoldable pub front_of : List ℕ → Start → List Element → List Value
front_of s g l = head_values s g ++ values_in s l

-- the values of a whole path, behind whose head g its body stands
abbrev pub all_of : List ℕ → Start → List Value
all_of s g = head_values s g ++ body_values g.seps s g.at

-- what is left are the first values of the path
pub record Ahead (s : List ℕ) (g : Start) (l : List Element) : Type 0 where
  pub rest : List Value
  pub is : all_of s g ≡ front_of s g l ++ rest
