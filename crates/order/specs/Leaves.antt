-- What the leaves promise and the loops keep. Nothing here has to be believed: the public promises do not name it.
use Rattle.std.specs.Prelude.{ℕ, ◌+◌, ◌-◌, ◌<◌, ◌≤◌, ◌≡◌, List, [], ◌∷◌, ◌++◌, Bool, true, false, cond, ◌⊎◌, length, get_or, take, drop, eqb, Option, Some, None}
use Rattle.octets.specs.Class.{is_sep}
use Rattle.octets.specs.declared.Seps.{Seps}
use Rattle.prefixes.specs.Prefix.{figures_of}
use Rattle.parts.specs.declared.Element.{Element}
use Rattle.parts.specs.declared.Kind.{Kind}
use Rattle.parts.specs.declared.Kind.TheVariants.{Dot, DotDot, Name}
use Rattle.parts.specs.Body.{dots, from}
use Rattle.components.specs.declared.Dir.{Dir}
use Rattle.components.specs.declared.Dir.TheVariants.{Bare, Root, Implied, Dot as Here}
use Rattle.components.specs.declared.Start.{Start}
use Rattle.components.specs.List.{head_list}
use Rattle.std.specs.declared.cmp.Ordering.{Ordering}
use Rattle.std.specs.declared.cmp.Ordering.TheVariants.{Less, Equal, Greater}
use Rattle.order.specs.declared.Heads.{Heads}
use Rattle.order.specs.declared.Heads.TheVariants.{Same, Apart, First, Second}
use Rattle.order.specs.Values.{Value, valued, prefix_value, values_in}
use Rattle.order.specs.Order.{cmp_bytes, cmp_value}
use Rattle.prefixes.specs.declared.Prefix.{Prefix}

-- a and b are the same up to place r, where they differ or the shorter ends
pub record Differ (a b : List ℕ) (r : ℕ) : Type 0 where
  pub first : r ≤ length a
  pub second : r ≤ length b
  pub same : take r a ≡ take r b
  pub apart : r < length a → r < length b → get_or a r 0 ≡ get_or b r 0 → ⊥

-- two strings from place i on
unfoldable pub cmp_from : List ℕ → List ℕ → ℕ → Ordering
cmp_from a b i = cmp_bytes (drop i a) (drop i b)

-- the kind of a part's value, and whether it has a name
abbrev pub rank_of : Kind → ℕ
rank_of Dot = 3
rank_of DotDot = 4
rank_of Name = 5

-- the kind of step 2's value, and 0 for none
abbrev pub dir_rank : Dir → ℕ
dir_rank Bare = 0
dir_rank Root = 2
dir_rank Implied = 2
dir_rank Here = 3

-- the values of step 2, by that number
unfoldable pub dir_values : ℕ → List Value
dir_values c = cond (eqb c 0) [] (valued c [] ∷ [])

unfoldable pub head_values : List ℕ → Start → List Value
head_values s g = values_in s (head_list g)

-- the values of the body from place i on
unfoldable pub body_values : Seps → List ℕ → ℕ → List Value
body_values k s i = values_in s (from (is_sep k) (dots k) s i)

abbrev pub is_nil : List Value → Bool
is_nil [] = true
is_nil (v ∷ l) = false

-- how two lists meet
abbrev pub meet_then : Ordering → Heads → Heads
meet_then Less m = Apart Less
meet_then Equal m = m
meet_then Greater m = Apart Greater

unfoldable pub meet : List Value → List Value → Heads
meet [] [] = Same
meet [] (v ∷ m) = Second
meet (u ∷ l) [] = First
meet (u ∷ l) (v ∷ m) = meet_then (cmp_value u v) (meet l m)

-- the order of two lists that meet so, and whether the first starts with the second
abbrev pub order_of : Heads → Ordering
order_of Same = Equal
order_of (Apart o) = o
order_of First = Greater
order_of Second = Less

-- a prefix on one side alone, and what step 2 has on the other
abbrev pub meet_lone : ℕ → Heads → Ordering → Heads
meet_lone c alone o = cond (eqb c 0) alone (Apart o)

-- r is lo, or stands behind a separator between lo and hi
pub record SeamAt (sep : ℕ → Bool) (s : List ℕ) (lo hi r : ℕ) : Type 0 where
  pub low : lo ≤ r
  pub edge : (r ≡ lo) ⊎ ((lo < r) × (r ≤ hi) × (sep (get_or s (r - 1) 0) ≡ true))

-- the bodies of s from i on and of t from j on begin with the same elements, which end in the next n bytes
pub record SkipAt (k : Seps) (s : List ℕ) (i : ℕ) (h : Seps) (t : List ℕ) (j n : ℕ) : Type 0 where
  pub ahead : List Element
  pub first : from (is_sep k) (dots k) s i ≡ ahead ++ from (is_sep k) (dots k) s (i + n)
  pub second : from (is_sep h) (dots h) t j ≡ ahead ++ from (is_sep h) (dots h) t (j + n)
  pub alike : values_in s ahead ≡ values_in t ahead
  pub inside : i + n ≤ length s
  pub within : j + n ≤ length t

-- the kind of a list's first value; 4 stands for no value, since nothing is asked of one then
abbrev pub lead_kind : List Value → ℕ
lead_kind [] = 4
lead_kind (v ∷ l) = v.kind

-- the value of a prefix, if there is one
abbrev pub prefix_values : List ℕ → Option Prefix → List Value
prefix_values s None = []
prefix_values s (Some p) = prefix_value s (figures_of p) ∷ []
