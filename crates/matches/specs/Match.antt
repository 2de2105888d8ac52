-- Whether a path starts or ends with another. Document 01, "Views over the list": "Starts with, ends with: by components."
use Rattle.std.specs.Prelude.{Bool, true, false, cond, List, [], ◌∷◌, reverse, ℕ}
use Rattle.octets.specs.declared.Seps.{Seps}
use Rattle.std.specs.declared.cmp.Ordering.{Ordering}
use Rattle.std.specs.declared.cmp.Ordering.TheVariants.{Less, Equal, Greater}
use Rattle.order.specs.Values.{Value, values_of}
use Rattle.order.specs.Order.{cmp_value}

abbrev pub is_equal : Ordering → Bool
is_equal Less = false
is_equal Equal = true
is_equal Greater = false

-- two values are the same; `cmp_value` is Equal exactly on equal values
abbrev pub same : Value → Value → Bool
same u v = is_equal (cmp_value u v)

-- l starts with m
unfoldable pub starts_with : List Value → List Value → Bool
starts_with l [] = true
starts_with [] (v ∷ m) = false
starts_with (u ∷ l) (v ∷ m) = cond (same u v) (starts_with l m) false

-- l ends with m: from the last element on
unfoldable pub ends_with : List Value → List Value → Bool
ends_with l m = starts_with (reverse l) (reverse m)

unfoldable pub starts_of : Seps → List ℕ → List ℕ → Bool
starts_of k s t = starts_with (values_of k s) (values_of k t)

unfoldable pub ends_of : Seps → List ℕ → List ℕ → Bool
ends_of k s t = ends_with (values_of k s) (values_of k t)
