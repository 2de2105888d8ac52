-- Laws of the public call `absolute`: one a way through it.
use Rattle.std.specs.Prelude.{ℕ, ◌<◌, ◌≤◌, ◌≡◌, List, Result, Ok, Err}
use Rattle.std.proofs.Common.{arith, lt-ltb}
use Rattle.answers.specs.declared.Reply.TheVariants.{Mode}
use Rattle.answers.specs.declared.View.{View}
use Rattle.answers.specs.Reply.{refused_view}
use Rattle.answers.specs.Written.{Wrote}
use Rattle.buffers.specs.Laws.{write_stops}
use Rattle.absolute.specs.Absolute.{absolute_of}
use Rattle.paths.specs.Absolute.{absolute_call}
use Rattle.answers.specs.declared.Reply.{Reply}
use Rattle.octets.specs.declared.Seps.{Seps}
use Rattle.answers.specs.Outcome.{Outcome, in_unix, in_mode, short}
use Rattle.paths.specs.Guards.{accepted_both}
use Rattle.paths.specs.GuardLaws.{one_same, one_short, one_taken, one_refused, both_same, both_first, both_second, both_taken, both_wrote, both_refused, both_left}

module _ (m : ℕ) (s cwd : List ℕ) (a : View) (b : List ℕ) where
  pub absolute_mode : 0 < m → a ≡ refused_view Mode → Wrote (absolute_call m s cwd) a b b
  unfolding absolute_call
  absolute_mode h e = write_stops Mode _ a (lt-ltb 0 m h) e

  module _ (g : m ≤ 0) (r : Result Seps Reply) (w : r ≡ accepted_both m s cwd) where
    -- mode 0 is one for both
    modes : (o : Outcome (List ℕ)) → in_unix m o ≡ in_mode m o
    modes o = let z : m ≡ 0 = omega arith in rw z

    pub absolute_refused : (e : Reply) → r ≡ Err e → a ≡ refused_view e → Wrote (absolute_call m s cwd) a b b
    unfolding absolute_call
    absolute_refused e h z = rw (modes (short s (short cwd (absolute_of s cwd)))) (both_left m s cwd r w _ a b e h z)

    pub absolute_taken : (k : Seps) (after : List ℕ) → r ≡ Ok k → Wrote (absolute_of s cwd) a b after → Wrote (absolute_call m s cwd) a b after
    unfolding absolute_call
    absolute_taken k after h y = rw (modes (short s (short cwd (absolute_of s cwd)))) (both_wrote m s cwd r w k h _ a b after y)

pub ruleset absolutes = (absolute_mode, absolute_refused, absolute_taken, both_first, both_second)
