-- Laws of the calls of two paths, whatever they answer.
use Rattle.std.specs.Prelude.{ℕ, ◌≡◌, List, Bool, Result, Ok, Err}
use Rattle.std.proofs.Common.{◌∙◌}
use Rattle.octets.specs.declared.Seps.{Seps}
use Rattle.answers.specs.declared.Reply.{Reply}
use Rattle.answers.specs.declared.Verdict.{Verdict}
use Rattle.answers.specs.declared.View.{View}
use Rattle.answers.specs.Reply.{refused_view, refused_verdict, bit, judged}
use Rattle.answers.specs.Outcome.{Outcome, told}
use Rattle.std.specs.declared.cmp.Ordering.{Ordering}
use Rattle.order.specs.Order.{compare_of, order_number}
use Rattle.matches.specs.Strip.{strip_of}
use Rattle.paths.specs.Pairs.{pair_call, compared_as, tested_as}
use Rattle.paths.specs.Guards.{accepted_both}
use Rattle.paths.specs.GuardLaws.{both_same, both_taken, both_refused}

module _ (m : ℕ) (p q : List ℕ) (r : Result Seps Reply) (g : r ≡ accepted_both m p q) where
  module _ {A : Type 0} (no' : Reply → A) (f : Seps → List ℕ → List ℕ → Outcome A) (x : A) where
    pair_refused : (e : Reply) → r ≡ Err e → x ≡ no' e → x ≡ told no' (pair_call f m p q)
    unfolding pair_call
    pair_refused e h z = both_refused m p q r g no' _ x e h z

    pair_taken : (k : Seps) → r ≡ Ok k → x ≡ told no' (f k p q) → x ≡ told no' (pair_call f m p q)
    unfolding pair_call
    pair_taken k h e = both_taken m p q r g k h no' _ x (e ∙ rw (both_same m p q r g k h))

  -- a verdict
  pub verdict_refused : (f : Seps → List ℕ → List ℕ → Outcome Verdict) (x : Verdict) (e : Reply) → r ≡ Err e → x ≡ refused_verdict e → x ≡ told refused_verdict (pair_call f m p q)
  verdict_refused f x e h z = pair_refused refused_verdict f x e h z

  -- a view
  pub strip_refused : (x : View) (e : Reply) → r ≡ Err e → x ≡ refused_view e → x ≡ told refused_view (pair_call strip_of m p q)
  strip_refused x e h z = pair_refused refused_view strip_of x e h z

  module _ (k : Seps) (h : r ≡ Ok k) where
    pub compare_taken : (o : Ordering) (n : ℕ) → o ≡ compare_of k p q → n ≡ order_number o → judged n ≡ told refused_verdict (pair_call compared_as m p q)
    unfolding told
    compare_taken o n e v = pair_taken refused_verdict compared_as (judged n) k h (rw (v, e))

    pub test_of : (x : Verdict) (t : Seps → List ℕ → List ℕ → Bool) (b : Bool) → b ≡ t k p q → x ≡ judged (bit b) → x ≡ told refused_verdict (pair_call (tested_as t) m p q)
    unfolding told
    test_of x t b e w = pair_taken refused_verdict (tested_as t) x k h (w ∙ rw e)

    pub strip_taken : (x : View) → x ≡ told refused_view (strip_of k p q) → x ≡ told refused_view (pair_call strip_of m p q)
    strip_taken x e = pair_taken refused_view strip_of x k h e

pub ruleset pairs = (verdict_refused, compare_taken, test_of, strip_refused, strip_taken)
