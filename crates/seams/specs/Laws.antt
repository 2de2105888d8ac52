-- Laws of one path set behind another, whatever the set of separators: the empty path is a left unit, and either grouping gives the same bytes.
use Rattle.std.specs.Prelude.{ℕ, ◌+◌, ◌-◌, ◌≡◌, Bool, not, ◌⊎◌, get_or}
use Rattle.std.proofs.Math.Path.{refl, sym}
use Rattle.std.proofs.Common.{◌∙◌, ⊎_elim, inl, inr, arith, get_or-append-add}
use Rattle.std.proofs.Math.Bool.{true, false, cond}
use mathlib.Core.List.{List, [], ◌∷◌, ◌++◌, append_assoc, append-nil}
use Rattle.std.proofs.Math.ListN.{length, length-append}
use borrow.Author.Tests.{eq-eqb, ne_eqb, lt-ltb}
use Rattle.octets.specs.declared.Seps.{Seps}
use Rattle.octets.specs.declared.Seps.TheVariants.{Unix, Windows, Verbatim}
use Rattle.octets.specs.Class.{is_sep}
use Rattle.components.specs.List.{sep_at}
use Rattle.seams.specs.Seam.{sep_of, wants, glued, seamed}

pub either : (b : Bool) → (b ≡ true) ⊎ (b ≡ false)
either true = inl refl
either false = inr refl

sep_is_sep : (k : Seps) → is_sep k (sep_of k) ≡ true
sep_is_sep Unix = refl
sep_is_sep Windows = refl
sep_is_sep Verbatim = refl

module _ (k : Seps) where
  pub starts_nil : sep_at k [] 0 ≡ false
  unfolding sep_at
  starts_nil = refl

  pub starts_cons : (x : ℕ) (s : List ℕ) → sep_at k (x ∷ s) 0 ≡ is_sep k x
  unfolding sep_at
  starts_cons x s = rw (lt-ltb 0 (length (x ∷ s)) (omega arith))

  pub wants_append : (x : List ℕ) (y : ℕ) (q : List ℕ) → wants k (x ++ (y ∷ q)) ≡ wants k (y ∷ q)
  unfolding wants
  wants_append x y q =
      let e : length (x ++ (y ∷ q)) - 1 ≡ length x + (length (y ∷ q) - 1) = simp length-append (omega arith) in
      rw (ne_eqb (length (x ++ (y ∷ q))) 0 (λ z. omega (arith, length-append x (y ∷ q))), ne_eqb (length (y ∷ q)) 0 (λ z. omega arith), e, get_or-append-add)

  -- the separator goes behind the last part
  pub glued_append : (x : List ℕ) (y : ℕ) (q : List ℕ) → glued k (x ++ (y ∷ q)) ≡ x ++ glued k (y ∷ q)
  unfolding glued
  glued_append x y q = rw wants_append (by (wants k (y ∷ q)))
    where
      by : (b : Bool) → cond b (x ++ (y ∷ q) ++ (sep_of k ∷ [])) (x ++ (y ∷ q)) ≡ x ++ cond b ((y ∷ q) ++ (sep_of k ∷ [])) (y ∷ q)
      by true = append_assoc x (y ∷ q) (sep_of k ∷ [])
      by false = refl

  pub glued_open : (p : List ℕ) → wants k p ≡ true → glued k p ≡ p ++ (sep_of k ∷ [])
  unfolding glued
  glued_open p h = rw h

  pub glued_shut : (p : List ℕ) → wants k p ≡ false → glued k p ≡ p
  unfolding glued
  glued_shut p h = rw h

  glued_sep : glued k (sep_of k ∷ []) ≡ sep_of k ∷ []
  unfolding glued wants
  glued_sep = rw sep_is_sep

  -- a separator is added once
  pub glued_twice : (p : List ℕ) → glued k (glued k p) ≡ glued k p
  glued_twice p = ⊎_elim (λ h. rw (glued_open p h, glued_append p (sep_of k) [], glued_sep)) (λ h. rw (glued_shut p h, glued_shut p h)) (either (wants k p))

  pub starts_glued : (y : ℕ) (q r : List ℕ) → sep_at k (glued k (y ∷ q) ++ r) 0 ≡ sep_at k (y ∷ q) 0
  unfolding glued
  starts_glued y q r = by (wants k (y ∷ q))
    where
      by : (b : Bool) → sep_at k (cond b ((y ∷ q) ++ (sep_of k ∷ [])) (y ∷ q) ++ r) 0 ≡ sep_at k (y ∷ q) 0
      by true = starts_cons y _ ∙ sym (starts_cons y q)
      by false = starts_cons y _ ∙ sym (starts_cons y q)

  pub seamed_relative : (p q : List ℕ) → sep_at k q 0 ≡ false → seamed k p q ≡ glued k p ++ q
  unfolding seamed
  seamed_relative p q h = rw h

  pub seamed_rooted : (p q : List ℕ) → sep_at k q 0 ≡ true → seamed k p q ≡ q
  unfolding seamed
  seamed_rooted p q h = rw h

  -- the empty path is a left unit
  pub seamed_empty : (q : List ℕ) → seamed k [] q ≡ q
  unfolding seamed glued wants
  seamed_empty q = by (sep_at k q 0)
    where
      by : (b : Bool) → cond b q q ≡ q
      by true = refl
      by false = refl

  -- join goes by either grouping
  pub seamed_assoc : (p q r : List ℕ) → seamed k p (seamed k q r) ≡ seamed k (seamed k p q) r
  seamed_assoc p q r = ⊎_elim (λ h. rw (seamed_rooted q r h, seamed_rooted p r h, seamed_rooted (seamed k p q) r h)) (relative p q r) (either (sep_at k r 0))
    where
      relative : (p q r : List ℕ) → sep_at k r 0 ≡ false → seamed k p (seamed k q r) ≡ seamed k (seamed k p q) r
      relative p [] r h = rw (seamed_empty r, seamed_relative p r h, seamed_relative (seamed k p []) r h, seamed_relative p [] starts_nil, append-nil, glued_twice)
      relative p (y ∷ q) r h = ⊎_elim
          (λ t. rw (seamed_rooted p (y ∷ q) t, seamed_relative (y ∷ q) r h, seamed_rooted p (glued k (y ∷ q) ++ r) (starts_glued y q r ∙ t)))
          (λ t. rw (seamed_relative p (y ∷ q) t, seamed_relative (y ∷ q) r h, seamed_relative p (glued k (y ∷ q) ++ r) (starts_glued y q r ∙ t), seamed_relative (glued k p ++ (y ∷ q)) r h, glued_append, append_assoc))
          (either (sep_at k (y ∷ q) 0))

-- `wants_sep`
module _ (k : Seps) (s : List ℕ) where
  pub wants_none : length s ≡ 0 → false ≡ wants k s
  unfolding wants
  wants_none e = rw (eq-eqb (length s) 0 e)

  pub wants_last : (b : Bool) → (length s ≡ 0 → ⊥) → b ≡ is_sep k (get_or s (length s - 1) 0) → not b ≡ wants k s
  unfolding wants
  wants_last b h e = rw (ne_eqb (length s) 0 h, e)

pub ruleset seams = (wants_none, wants_last)
