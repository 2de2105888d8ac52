-- What makes a comparison an order; proofs/Ordered.antt has that those of order are.
use Rattle.std.specs.Prelude.{◌≡◌, List}
use Rattle.std.specs.declared.cmp.Ordering.{Ordering}
use Rattle.std.specs.declared.cmp.Ordering.TheVariants.{Less, Equal, Greater}
use Rattle.order.specs.Values.{Value}
use Rattle.order.specs.Order.{cmp_values}

abbrev pub swapped : Ordering → Ordering
swapped Less = Greater
swapped Equal = Equal
swapped Greater = Less

pub record Ordered {A : Type 0} (c : A → A → Ordering) : Type 0 where
  -- the other way round it tells the opposite
  pub flips : (a b : A) → c b a ≡ swapped (c a b)
  -- equals have the same order to all others
  pub alike : (a b d : A) → c a b ≡ Equal → c a d ≡ c b d
  pub goes : (a b d : A) → c a b ≡ Less → c b d ≡ Less → c a d ≡ Less

-- the order of lists of values: l is not behind m
abbrev pub Before : List Value → List Value → Type 0
Before l m = cmp_values l m ≡ Greater → ⊥
