-- The tests of a path's head.
use Rattle.std.specs.Prelude.{ℕ, List, Bool}
use Rattle.octets.specs.Class.{seps_of}
use Rattle.octets.specs.declared.Seps.{Seps}
use Rattle.answers.specs.declared.Verdict.{Verdict}
use Rattle.answers.specs.Reply.{bit, judged}
use Rattle.answers.specs.Outcome.{Outcome, give, in_mode, short}
use Rattle.components.specs.List.{has_root, is_absolute}

-- a test of one path, with the guards in front of it
unfoldable pub test_call : (Seps → List ℕ → Bool) → ℕ → List ℕ → Outcome Verdict
test_call t m s = in_mode m (short s (give (judged (bit (t (seps_of m) s)))))

abbrev pub root_call : ℕ → List ℕ → Outcome Verdict
root_call = test_call has_root

abbrev pub absolute_test : ℕ → List ℕ → Outcome Verdict
absolute_test = test_call is_absolute
