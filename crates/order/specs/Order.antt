-- The order of two paths. Document 01, "Views over the list": "Order: lists compared element by element, a shorter list first;
-- kinds Prefix, RootDir, CurDir, ParentDir, Normal; names by bytes; prefixes in the order Verbatim, VerbatimUNC, VerbatimDisk,
-- DeviceNS, UNC, Disk, then their contents."
use Rattle.std.specs.Prelude.{ℕ, List, [], ◌∷◌, cond, ltb}
use Rattle.octets.specs.declared.Seps.{Seps}
use Rattle.std.specs.declared.cmp.Ordering.{Ordering}
use Rattle.std.specs.declared.cmp.Ordering.TheVariants.{Less, Equal, Greater}
use Rattle.order.specs.Values.{Value, values_of}

-- the first order, or where that is Equal the second
abbrev pub and_then : Ordering → Ordering → Ordering
and_then Less o = Less
and_then Equal o = o
and_then Greater o = Greater

unfoldable pub cmp_nat : ℕ → ℕ → Ordering
cmp_nat a b = cond (ltb a b) Less (cond (ltb b a) Greater Equal)

-- "element by element, a shorter list first"; c is the order of the elements
unfoldable pub lexical : {A : Type 0} → (A → A → Ordering) → List A → List A → Ordering
lexical c [] [] = Equal
lexical c [] (y ∷ m) = Less
lexical c (x ∷ l) [] = Greater
lexical c (x ∷ l) (y ∷ m) = and_then (c x y) (lexical c l m)

-- "names by bytes"
abbrev pub cmp_bytes : List ℕ → List ℕ → Ordering
cmp_bytes a b = lexical cmp_nat a b

-- kinds, then a prefix's kind, then its contents: the letter, the server before the share
unfoldable pub cmp_value : Value → Value → Ordering
cmp_value u v =
    and_then (cmp_nat u.kind v.kind)
    (and_then (cmp_nat u.prefix v.prefix)
    (and_then (cmp_nat u.letter v.letter)
    (and_then (cmp_bytes u.name v.name) (cmp_bytes u.share v.share))))

abbrev pub cmp_values : List Value → List Value → Ordering
cmp_values l m = lexical cmp_value l m

unfoldable pub compare_of : Seps → List ℕ → List ℕ → Ordering
compare_of k s t = cmp_values (values_of k s) (values_of k t)

-- an order as a number: 0 where the first path comes first, 1 where they are equal, 2 where the second comes first
abbrev pub order_number : Ordering → ℕ
order_number Less = 0
order_number Equal = 1
order_number Greater = 2
