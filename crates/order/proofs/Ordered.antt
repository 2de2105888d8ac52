-- The order is one: total, antisymmetric, transitive, and Equal exactly on equal lists.
use Rattle.std.specs.Prelude.{ℕ, ◌<◌, ◌≤◌, ◌≡◌, ◌⊎◌, ltb}
use Rattle.std.proofs.Common.{arith, sym, ap, ◌∙◌, inl, inr}
use Rattle.std.proofs.Math.Path.{refl}
use mathlib.Core.List.{List, [], ◌∷◌, ◌++◌}
use borrow.Author.Tests.{lt-ltb, le-ltb, ltb-true, ltb-false}
use Rattle.octets.specs.Laws.{split}
use Rattle.std.specs.declared.cmp.Ordering.{Ordering}
use Rattle.std.specs.declared.cmp.Ordering.TheVariants.{Less, Equal, Greater}
use Rattle.order.specs.Ordered.{swapped, Ordered, Before}
use Rattle.order.specs.Values.{Value}
use Rattle.order.specs.Order.{and_then, cmp_nat, lexical, cmp_bytes, cmp_value, cmp_values}

-- a proof for each order, with the equation
pub each : {A : Type 0} (o : Ordering) → (o ≡ Less → A) → (o ≡ Equal → A) → (o ≡ Greater → A) → A
each Less f g h = f refl
each Equal f g h = g refl
each Greater f g h = h refl

less_not_equal : {A : Type 0} → Less ≡ Equal → A
less_not_equal e = let z : ◌≡◌ {A = ℕ} 0 1 = cc in absurd (omega arith)

less_not_greater : {A : Type 0} → Less ≡ Greater → A
less_not_greater e = let z : ◌≡◌ {A = ℕ} 0 1 = cc in absurd (omega arith)

greater_not_equal : {A : Type 0} → Greater ≡ Equal → A
greater_not_equal e = let z : ◌≡◌ {A = ℕ} 0 1 = cc in absurd (omega arith)

-- ---- numbers
module _ (a b : ℕ) where
  pub nat_less : a < b → cmp_nat a b ≡ Less
  unfolding cmp_nat
  nat_less h = simp (lt-ltb a b h)

  pub nat_more : b < a → cmp_nat a b ≡ Greater
  unfolding cmp_nat
  nat_more h = simp (le-ltb a b (omega arith), lt-ltb b a h)

  pub nat_same : a ≤ b → b ≤ a → cmp_nat a b ≡ Equal
  unfolding cmp_nat
  nat_same h k = simp (le-ltb a b k, le-ltb b a h)

  -- which of the three two numbers are
  pub nat_by : {A : Type 0} → (a < b → A) → (a ≡ b → A) → (b < a → A) → A
  nat_by f g h =
      split (ltb a b)
      (λ x. f (ltb-true a b x))
      (λ x. split (ltb b a) (λ y. h (ltb-true b a y)) (λ y. g (omega (arith, ltb-false a b x, ltb-false b a y))))

  nat_told_less : cmp_nat a b ≡ Less → a < b
  nat_told_less e = nat_by (λ h. h) (λ h. less_not_equal (sym e ∙ nat_same (omega arith) (omega arith))) (λ h. less_not_greater (sym e ∙ nat_more h))

  nat_told_equal : cmp_nat a b ≡ Equal → a ≡ b
  nat_told_equal e = nat_by (λ h. less_not_equal (sym (nat_less h) ∙ e)) (λ h. h) (λ h. greater_not_equal (sym (nat_more h) ∙ e))

-- a comparison told by its three values
module _ {A : Type 0} {c : A → A → Ordering} (o : Ordered c) where
  itself_by : (x : Ordering) → x ≡ swapped x → x ≡ Equal
  itself_by Less e = less_not_greater e
  itself_by Equal e = refl
  itself_by Greater e = less_not_greater (sym e)

  pub itself : (a : A) → c a a ≡ Equal
  itself a = itself_by (c a a) (o.flips a a)

  -- equals have the same order from all others
  behind : (a b d : A) → c a b ≡ Equal → c d a ≡ c d b
  behind a b d e = o.flips a d ∙ ap swapped (o.alike a b d e) ∙ sym (o.flips b d)

pub nat_ordered : Ordered cmp_nat
nat_ordered =
    record {
      flips =
          λ a b. nat_by a b
          (λ h. rw (nat_less a b h) (nat_more b a h))
          (λ h. rw (nat_same a b (omega arith) (omega arith)) (nat_same b a (omega arith) (omega arith)))
          (λ h. rw (nat_more a b h) (nat_less b a h));
      alike = λ a b d e. rw (nat_told_equal a b e);
      goes = λ a b d e f. nat_less a d (omega (arith, nat_told_less a b e, nat_told_less b d f));
    }

-- ---- one comparison, and where that is Equal another
turn_then : (x y : Ordering) → swapped (and_then x y) ≡ and_then (swapped x) (swapped y)
turn_then Less y = refl
turn_then Equal y = refl
turn_then Greater y = refl

then_first : (x y : Ordering) → and_then x y ≡ Equal → x ≡ Equal
then_first Less y e = e
then_first Equal y e = refl
then_first Greater y e = e

then_second : (x y : Ordering) → and_then x y ≡ Equal → y ≡ Equal
then_second Less y e = less_not_equal e
then_second Equal y e = e
then_second Greater y e = greater_not_equal e

module _ {A : Type 0} {c d : A → A → Ordering} (p : Ordered c) (q : Ordered d) where
  then_goes : (a b e : A) → and_then (c a b) (d a b) ≡ Less → and_then (c b e) (d b e) ≡ Less → and_then (c a e) (d a e) ≡ Less
  then_goes a b e f g =
      each (c a b)
      (λ x. each (c b e)
      (λ y. rw (p.goes a b e x y))
      (λ y. rw (← behind p b e a y, x))
      (λ y. less_not_greater (sym (rw y at g))))
      (λ x. rw (p.alike a b e x)
      (each (c b e)
      (λ y. rw y)
      (λ y. rw y (q.goes a b e (rw x at f) (rw y at g)))
      (λ y. less_not_greater (sym (rw y at g)))))
      (λ x. less_not_greater (sym (rw x at f)))

  then_ordered : Ordered (λ (a b : A). and_then (c a b) (d a b))
  then_ordered =
      record {
        flips = λ a b. rw (p.flips a b, q.flips a b) (sym (turn_then (c a b) (d a b)));
        alike = λ a b e f. rw (p.alike a b e (then_first (c a b) (d a b) f), q.alike a b e (then_second (c a b) (d a b) f));
        goes = then_goes;
      }

-- ---- by a part of what is compared
by_ordered : {A B : Type 0} (f : A → B) {c : B → B → Ordering} → Ordered c → Ordered (λ (a b : A). c (f a) (f b))
by_ordered f o = record { flips = λ a b. o.flips (f a) (f b); alike = λ a b d. o.alike (f a) (f b) (f d); goes = λ a b d. o.goes (f a) (f b) (f d) }

-- ---- lists
module _ {A : Type 0} {c : A → A → Ordering} (o : Ordered c) where
  lists_flip : (l m : List A) → lexical c m l ≡ swapped (lexical c l m)
  unfolding lexical
  lists_flip [] [] = refl
  lists_flip [] (y ∷ m) = refl
  lists_flip (x ∷ l) [] = refl
  lists_flip (x ∷ l) (y ∷ m) = rw (o.flips x y, lists_flip l m) (sym (turn_then (c x y) (lexical c l m)))

  lists_alike : (l m n : List A) → lexical c l m ≡ Equal → lexical c l n ≡ lexical c m n
  unfolding lexical
  lists_alike [] [] n e = refl
  lists_alike [] (y ∷ m) n e = less_not_equal e
  lists_alike (x ∷ l) [] n e = greater_not_equal e
  lists_alike (x ∷ l) (y ∷ m) [] e = refl
  lists_alike (x ∷ l) (y ∷ m) (z ∷ n) e =
      rw (o.alike x y z (then_first (c x y) (lexical c l m) e), lists_alike l m n (then_second (c x y) (lexical c l m) e))

  lists_go : (l m n : List A) → lexical c l m ≡ Less → lexical c m n ≡ Less → lexical c l n ≡ Less
  unfolding lexical
  lists_go [] [] n e f = f
  lists_go [] (y ∷ m) [] e f = less_not_greater (sym f)
  lists_go [] (y ∷ m) (z ∷ n) e f = refl
  lists_go (x ∷ l) [] n e f = less_not_greater (sym e)
  lists_go (x ∷ l) (y ∷ m) [] e f = f
  lists_go (x ∷ l) (y ∷ m) (z ∷ n) e f =
      each (c x y)
      (λ p. each (c y z)
      (λ q. rw (o.goes x y z p q))
      (λ q. rw (← behind o y z x q, p))
      (λ q. less_not_greater (sym (rw q at f))))
      (λ p. rw (o.alike x y z p)
      (each (c y z)
      (λ q. rw q)
      (λ q. rw q (lists_go l m n (rw p at e) (rw q at f)))
      (λ q. less_not_greater (sym (rw q at f)))))
      (λ p. less_not_greater (sym (rw p at e)))

  pub lists_ordered : Ordered (lexical c)
  lists_ordered = record { flips = lists_flip; alike = lists_alike; goes = lists_go }

  -- a common front does not count
  pub lists_skip : (x l m : List A) → lexical c (x ++ l) (x ++ m) ≡ lexical c l m
  unfolding lexical
  lists_skip [] l m = refl
  lists_skip (a ∷ x) l m = rw (itself o a) (lists_skip x l m)

-- Equal on equals only
module _ {A : Type 0} {c : A → A → Ordering} (x : (a b : A) → c a b ≡ Equal → a ≡ b) where
  lists_exact : (l m : List A) → lexical c l m ≡ Equal → l ≡ m
  unfolding lexical
  lists_exact [] [] e = refl
  lists_exact [] (b ∷ m) e = less_not_equal e
  lists_exact (a ∷ l) [] e = greater_not_equal e
  lists_exact (a ∷ l) (b ∷ m) e = rw (x a b (then_first (c a b) (lexical c l m) e), lists_exact l m (then_second (c a b) (lexical c l m) e))

-- ---- values
pub value_ordered : Ordered cmp_value
unfolding cmp_value
value_ordered =
    then_ordered (by_ordered (λ (v : Value). v.kind) nat_ordered)
    (then_ordered (by_ordered (λ (v : Value). v.prefix) nat_ordered)
    (then_ordered (by_ordered (λ (v : Value). v.letter) nat_ordered)
    (then_ordered (by_ordered (λ (v : Value). v.name) (lists_ordered nat_ordered)) (by_ordered (λ (v : Value). v.share) (lists_ordered nat_ordered)))))

abbrev made : ℕ → ℕ → ℕ → List ℕ → List ℕ → Value
made a b c d e = record { kind = a; prefix = b; letter = c; name = d; share = e }

values_same : (a b c : ℕ) (d e : List ℕ) (a' b' c' : ℕ) (d' e' : List ℕ) → a ≡ a' → b ≡ b' → c ≡ c' → d ≡ d' → e ≡ e' → made a b c d e ≡ made a' b' c' d' e'
values_same a b c d e a' b' c' d' e' p q r s t = cc

pub value_exact : (u v : Value) → cmp_value u v ≡ Equal → u ≡ v
unfolding cmp_value
value_exact u v e =
    let f = then_second (cmp_nat u.kind v.kind) _ e in
    let g = then_second (cmp_nat u.prefix v.prefix) _ f in
    let h = then_second (cmp_nat u.letter v.letter) _ g in
    values_same u.kind u.prefix u.letter u.name u.share v.kind v.prefix v.letter v.name v.share
    (nat_told_equal u.kind v.kind (then_first _ _ e))
    (nat_told_equal u.prefix v.prefix (then_first _ _ f))
    (nat_told_equal u.letter v.letter (then_first _ _ g))
    (lists_exact nat_told_equal u.name v.name (then_first _ _ h))
    (lists_exact nat_told_equal u.share v.share (then_second (cmp_bytes u.name v.name) _ h))

-- ---- the order of lists of values
pub total : (l m : List Value) → Before l m ⊎ Before m l
total l m =
    each (cmp_values l m)
    (λ e. inl (λ g. less_not_greater (sym e ∙ g)))
    (λ e. inl (λ g. greater_not_equal (sym g ∙ e)))
    (λ e. inr (λ g. less_not_greater (sym (rw e at ((lists_ordered value_ordered).flips l m)) ∙ g)))

pub antisymmetric : (l m : List Value) → Before l m → Before m l → l ≡ m
antisymmetric l m f g =
    each (cmp_values l m)
    (λ e. absurd (g (rw e at ((lists_ordered value_ordered).flips l m))))
    (λ e. lists_exact value_exact l m e)
    (λ e. absurd (f e))

pub transitive : (l m n : List Value) → Before l m → Before m n → Before l n
transitive l m n f g h =
    let o = lists_ordered value_ordered in
    each (cmp_values l m)
    (λ e. each (cmp_values m n)
    (λ d. less_not_greater (sym (o.goes l m n e d) ∙ h))
    (λ d. less_not_greater (sym e ∙ behind o m n l d ∙ h))
    (λ d. g d))
    (λ e. g (sym (o.alike l m n e) ∙ h))
    (λ e. f e)

-- "Equal means equal lists"
pub equal_lists : (l m : List Value) → cmp_values l m ≡ Equal → l ≡ m
equal_lists l m e = lists_exact value_exact l m e

pub lists_equal : (l m : List Value) → l ≡ m → cmp_values l m ≡ Equal
lists_equal l m e = rw e (itself (lists_ordered value_ordered) m)
