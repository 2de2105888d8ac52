-- From a promise alone any two answers that meet it coincide: one law for each shape of promise.
use Rattle.std.specs.Prelude.{ℕ, ◌≡◌, List, true, false}
use Rattle.std.proofs.Common.{sym, ◌∙◌, arith}
use Rattle.octets.specs.Laws.{split}
use Rattle.octets.specs.declared.Seps.{Seps}
use Rattle.answers.specs.declared.Reply.{Reply}
use Rattle.answers.specs.declared.Reply.TheVariants.{Absent}
use Rattle.answers.specs.declared.View.{View}
use Rattle.answers.specs.Outcome.{Outcome, refuse, give, told, guard}
use Rattle.answers.specs.Written.{Wrote}
use Rattle.matches.specs.Match.{starts_of}
use Rattle.matches.specs.Strip.{strip_of}

-- a call that answers numbers: reply, numbers and cursor
pub one_answer : {A : Type 0} (f : Reply → A) (o : Outcome A) (a b : A) → a ≡ told f o → b ≡ told f o → a ≡ b
one_answer f o a b x y = x ∙ sym y

-- a call that writes: reply, length, and every byte of the buffer
pub one_buffer : (o : Outcome (List ℕ)) (a b : View) (before x y : List ℕ) → Wrote o a before x → Wrote o b before y → (a ≡ b) × (x ≡ y)
one_buffer o a b before x y w v = (w.says ∙ sym v.says, w.leaves ∙ sym v.leaves)

-- `strip_prefix` is Done exactly where `starts_with` is 1
module _ (k : Seps) (s t : List ℕ) where
  pub strip_off : starts_of k s t ≡ false → strip_of k s t ≡ refuse Absent
  unfolding strip_of guard
  strip_off e = rw e

  pub strip_starts : (v : View) → strip_of k s t ≡ give v → starts_of k s t ≡ true
  strip_starts v e =
      split (starts_of k s t)
      (λ b. b)
      (λ b. let z : refuse Absent ≡ give v = sym (strip_off b) ∙ e in let y : ◌≡◌ {A = ℕ} 0 1 = cc in absurd (omega arith))
