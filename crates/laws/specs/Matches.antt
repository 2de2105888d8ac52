-- What starts and ends by components mean: a list starts with another exactly where it is that one with a list behind it, and ends with it
-- exactly where it is that one with a list before it.
use Rattle.std.specs.Prelude.{◌≡◌, refl, true, List, [], ◌∷◌, ◌++◌, reverse, ◌↔◌, ℕ}
use Rattle.std.proofs.Common.{sym, ap, ◌∙◌}
use Rattle.std.proofs.lemmas.Bool.{false≢true}
use Rattle.std.proofs.lemmas.List.{reverse-append, reverse-reverse}
use Rattle.octets.specs.declared.Seps.{Seps}
use Rattle.order.specs.Values.{Value, values_of}
use Rattle.order.specs.Order.{cmp_value}
use Rattle.order.proofs.Ordered.{each, itself, value_ordered, value_exact}
use Rattle.matches.specs.Match.{starts_with, ends_with, starts_of, ends_of}

starts_rest : (l m : List Value) → starts_with l m ≡ true → (r : List Value) × (l ≡ m ++ r)
unfolding starts_with
starts_rest l [] e = (l, refl)
starts_rest [] (v ∷ m) e = absurd (false≢true e)
starts_rest (u ∷ l) (v ∷ m) e =
    each (cmp_value u v)
    (λ x. absurd (false≢true (rw x at e)))
    (λ x. let t = starts_rest l m (rw x at e) in (t.0, rw (value_exact u v x) (ap (λ (n : List Value). v ∷ n) t.1)))
    (λ x. absurd (false≢true (rw x at e)))

starts_front : (m r : List Value) → starts_with (m ++ r) m ≡ true
unfolding starts_with
starts_front [] r = refl
starts_front (v ∷ m) r = rw (itself value_ordered v) (starts_front m r)

-- l starts with m: something stands behind m
pub starts_exactly : (l m : List Value) → (starts_with l m ≡ true) ↔ ((r : List Value) × (l ≡ m ++ r))
starts_exactly l m = (starts_rest l m, λ t. rw t.1 (starts_front m t.0))

-- l ends with m: something stands before m
pub ends_exactly : (l m : List Value) → (ends_with l m ≡ true) ↔ ((r : List Value) × (l ≡ r ++ m))
unfolding ends_with
ends_exactly l m = (
  λ e. let t = starts_rest (reverse l) (reverse m) e in
      (reverse t.0, sym (reverse-reverse l) ∙ ap reverse t.1 ∙ reverse-append (reverse m) t.0 ∙ rw (reverse-reverse m)),
  λ t. rw (t.1, reverse-append t.0 m) (starts_front (reverse m) (reverse t.0)),
)

-- of two paths, by their lists
module _ (k : Seps) (s t : List ℕ) where
  pub starts_by : (starts_of k s t ≡ true) ↔ ((r : List Value) × (values_of k s ≡ values_of k t ++ r))
  unfolding starts_of
  starts_by = starts_exactly (values_of k s) (values_of k t)

  pub ends_by : (ends_of k s t ≡ true) ↔ ((r : List Value) × (values_of k s ≡ r ++ values_of k t))
  unfolding ends_of
  ends_by = ends_exactly (values_of k s) (values_of k t)
