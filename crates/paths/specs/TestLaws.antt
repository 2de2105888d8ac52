-- Laws of the tests of one path, whatever the test.
use Rattle.std.specs.Prelude.{ℕ, ◌≡◌, List, Bool, Result, Ok, Err}
use Rattle.std.proofs.Common.{◌∙◌}
use Rattle.octets.specs.declared.Seps.{Seps}
use Rattle.answers.specs.declared.Verdict.{Verdict}
use Rattle.answers.specs.Reply.{refused_verdict, bit, judged}
use Rattle.answers.specs.Outcome.{told}
use Rattle.paths.specs.Tests.{test_call}
use Rattle.answers.specs.declared.Reply.{Reply}
use Rattle.paths.specs.Guards.{accepted_one}
use Rattle.paths.specs.GuardLaws.{one_same, one_taken, one_refused}

module _ (t : Seps → List ℕ → Bool) (m : ℕ) (s : List ℕ) (x : Verdict) (r : Result Seps Reply) (g : r ≡ accepted_one m s) where
  pub test_refused : (e : Reply) → r ≡ Err e → x ≡ refused_verdict e → x ≡ told refused_verdict (test_call t m s)
  unfolding test_call
  test_refused e h z = one_refused m s r g refused_verdict _ x e h z

  pub test_taken : (k : Seps) (b : Bool) → r ≡ Ok k → b ≡ t k s → x ≡ judged (bit b) → x ≡ told refused_verdict (test_call t m s)
  unfolding test_call told
  test_taken k b h e w = one_taken m s r g k h refused_verdict _ x (w ∙ rw (e, one_same m s r g k h))

pub ruleset tests = (test_refused, test_taken)
