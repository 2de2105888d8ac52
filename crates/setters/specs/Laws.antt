-- Laws of the setters: one a way through each function.
use Rattle.std.specs.Prelude.{ℕ, ◌+◌, ◌-◌, ◌<◌, ◌≤◌, ◌≡◌, List, [], ◌∷◌, ◌++◌, Bool, true, false, cond, not, nat_eq, eqb, length, get_or, take, Option, Some, None}
use borrow.Author.Tests.{eqb-true}
use Rattle.octets.specs.Laws.{split}
use Rattle.std.proofs.Math.Nat.{sub-zero, add-sub_of_le}
use Rattle.std.proofs.Common.{arith, add-one, ◌∙◌, append-nil, drop_of_length-le, length-take-le, drop-cons}
use Rattle.std.proofs.Math.Path.{refl, sym}
use Rattle.std.proofs.Math.Seq.{take-length}
use Rattle.octets.specs.Class.{is_sep, limit}
use Rattle.octets.specs.declared.Seps.{Seps}
use Rattle.octets.specs.declared.Seps.TheVariants.{Unix}
use Rattle.answers.specs.declared.Reply.TheVariants.{Absent, Name}
use Rattle.answers.specs.declared.View.{View}
use Rattle.answers.specs.Reply.{refused_view, seen}
use Rattle.answers.specs.Outcome.{give, guard}
use Rattle.answers.specs.Written.{Wrote}
use Rattle.buffers.specs.Laws.{refused}
use Rattle.parts.specs.declared.Part.{Part}
use Rattle.parts.specs.Elements.{is_here}
use Rattle.parts.specs.Steps.{lift}
use Rattle.joins.specs.Join.{joined}
use Rattle.views.specs.Views.{last_name, rest_back, of_name, file_stem_of}
use Rattle.views.specs.Leaves.{NameAt, before_name, BaseAt, StemAt}
use Rattle.views.specs.Laws.{name_ends}
use Rattle.setters.specs.Set.{base_of, holds, pointed, extended}
use Rattle.setters.specs.Leaves.{holds_from}
use Rattle.parts.specs.declared.Element.{Element}

-- `set_file_name_in`
base_is : (p : List ℕ) (r a : ℕ) (i : Option Element) → r ≡ before_name i a (length p) → take r p ≡ cond (is_here i) (take a p) p
base_is p r a None e = rw e (take-length p)
base_is p r a (Some x) e = rw e

module _ (k : Seps) (p q : List ℕ) (r : ℕ) (b : BaseAt k p r) where
  pub base_short : length p ≤ limit → length (take r p) ≤ limit
  base_short h = omega (arith, length-take-le r p b.inside, b.inside)

  -- the part `&p[0..r]` is `take (r - 0) p`
  pub set_is : (a : View) (x y : List ℕ) → Wrote (give (joined k (take (r - 0) p) q)) a x y → Wrote (give (joined k (base_of k p) q)) a x y
  unfolding base_of
  set_is a x y w = rw (sub-zero, base_is p r (rest_back k p 1).len (last_name k p) b.is) at w

  pub set_unix : (a : View) (x y : List ℕ) → k ≡ Unix → Wrote (give (joined Unix (take (r - 0) p) q)) a x y → Wrote (give (joined k (base_of k p) q)) a x y
  set_unix a x y e w = set_is a x y (rw e w)

-- `holds_sep`
module _ (sep : ℕ → Bool) (e : List ℕ) where
  pub holds_start : holds sep e ≡ holds_from sep e 0
  unfolding holds_from
  holds_start = refl

  module _ (i : ℕ) (f : holds sep e ≡ holds_from sep e i) where
    pub holds_not : length e ≤ i → false ≡ holds sep e
    unfolding holds_from holds
    holds_not h = sym (f ∙ rw (drop_of_length-le e h))

    module _ (h : i < length e) (b : Bool) (t : b ≡ sep (get_or e i 0)) where
      pub holds_here : b ≡ true → true ≡ holds sep e
      unfolding holds_from holds
      holds_here y = sym (f ∙ rw (drop-cons e i 0 h, ← t, y))

      pub holds_on : b ≡ false → holds sep e ≡ holds_from sep e (i + 1)
      unfolding holds_from holds
      holds_on n = f ∙ rw (drop-cons e i 0 h, ← t, n, add-one)

-- `put_extension`
module _ (p e : List ℕ) (a : View) (x y : List ℕ) where
  pub put_is : (b : Bool) → b ≡ nat_eq (length e) 0 → Wrote (give (p ++ cond (not b) (46 ∷ []) [] ++ e)) a x y → Wrote (give (pointed p e)) a x y
  unfolding pointed
  put_is b z w = rw same at (rw z at w)
    where
      none : (e : List ℕ) → length e ≡ 0 → e ≡ []
      none [] z = refl
      none (y ∷ e) z = absurd (omega (arith, z))

      same : p ++ cond (not (eqb (length e) 0)) (46 ∷ []) [] ++ e ≡ cond (eqb (length e) 0) p (p ++ (46 ∷ []) ++ e)
      same = split (eqb (length e) 0) (λ z. rw (z, none e (eqb-true (length e) 0 z)) (rw (append-nil, append-nil))) (λ z. rw z)

-- `set_extension_in`
module _ (k : Seps) (p e : List ℕ) (b : Bool) (t : b ≡ holds (is_sep k) e) where
  pub name_refused : (a : View) (x : List ℕ) → b ≡ true → a ≡ refused_view Name → Wrote (extended k p e) a x x
  unfolding extended guard
  name_refused a x y f = rw (← t, y, f) refused

  module _ (m : b ≡ false) (n : Option Part) (w : NameAt k p n) where
    pub stem_absent : (a : View) (x : List ℕ) → n ≡ None → a ≡ refused_view Absent → Wrote (extended k p e) a x x
    unfolding extended guard of_name
    stem_absent a x g f =
        let i : last_name k p ≡ None = sym w.is ∙ rw g in
        rw (← t, m, i, f) refused

    module _ (q : Part) (g : n ≡ Some q) where
      pub stem_in : q.start + q.len ≤ length p
      stem_in = name_ends k p n w q g

      module _ (r : ℕ) (s : StemAt p q r) where
        stem_of : file_stem_of k p ≡ give (seen q.start (r - q.start))
        unfolding of_name
        stem_of =
            let i : last_name k p ≡ Some (lift q) = sym w.is ∙ rw g in
            rw i s.is

        pub stem_inside : r ≤ length p
        stem_inside = omega (arith, s.high, stem_in)

        pub stem_short : length p ≤ limit → length (take (r - 0) p) ≤ limit
        stem_short h = rw sub-zero (omega (arith, length-take-le r p stem_inside, stem_inside))

        pub extension_set : (a : View) (x y : List ℕ) → Wrote (give (pointed (take (r - 0) p) e)) a x y → Wrote (extended k p e) a x y
        unfolding extended guard
        extension_set a x y o = rw (← t, m, stem_of, add-sub_of_le s.low) (rw sub-zero at o)

pub ruleset setting = (base_short, set_is, set_unix, holds_start, holds_not, holds_here, holds_on, put_is, name_refused, stem_absent, stem_in, stem_inside, stem_short, extension_set)
