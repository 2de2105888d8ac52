-- Laws of the calls that make one path of two inputs, whatever they make of them.
use Rattle.std.specs.Prelude.{ℕ, ◌≡◌, List, Result, Ok, Err}
use Rattle.octets.specs.Class.{seps_of}
use Rattle.octets.specs.declared.Seps.{Seps}
use Rattle.answers.specs.declared.View.{View}
use Rattle.answers.specs.Reply.{refused_view}
use Rattle.answers.specs.Outcome.{Outcome}
use Rattle.answers.specs.Written.{Wrote}
use Rattle.paths.specs.Pairs.{pair_call}
use Rattle.answers.specs.declared.Reply.{Reply}
use Rattle.paths.specs.Guards.{accepted_both}
use Rattle.paths.specs.GuardLaws.{one_same, one_short, one_taken, one_refused, both_same, both_first, both_second, both_taken, both_wrote, both_refused, both_left}

module _ (f : Seps → List ℕ → List ℕ → Outcome (List ℕ)) (m : ℕ) (p q : List ℕ) (a : View) (b : List ℕ) (r : Result Seps Reply) (g : r ≡ accepted_both m p q) where
  pub write_refused : (e : Reply) → r ≡ Err e → a ≡ refused_view e → Wrote (pair_call f m p q) a b b
  unfolding pair_call
  write_refused e h z = both_left m p q r g _ a b e h z

  pub write_taken : (k : Seps) (after : List ℕ) → r ≡ Ok k → Wrote (f k p q) a b after → Wrote (pair_call f m p q) a b after
  unfolding pair_call
  write_taken k after h w = both_wrote m p q r g k h _ a b after (rw (one_of k h) at w)
    where
      one_of : (k : Seps) → r ≡ Ok k → k ≡ seps_of m
      one_of k h = both_same m p q r g k h

pub ruleset writes = (write_refused, write_taken, both_first, both_second)
