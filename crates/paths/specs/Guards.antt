-- What the guards in front of a call answer to the code that asks them. Nothing here has to be believed: a call's definition has its guards itself.
use Rattle.std.specs.Prelude.{ℕ, List, Result, Ok, Err}
use Rattle.octets.specs.Class.{seps_of}
use Rattle.octets.specs.declared.Seps.{Seps}
use Rattle.answers.specs.declared.Reply.{Reply}
use Rattle.answers.specs.Outcome.{Outcome, refuse, give, in_mode, short}

-- an outcome as a `Result`
abbrev pub result_of : {A : Type 0} → Outcome A → Result A Reply
result_of (refuse r) = Err r
result_of (give a) = Ok a

-- Mode and Length in front of what separates in that mode: for one path, and for two inputs
abbrev pub accepted_one : ℕ → List ℕ → Result Seps Reply
accepted_one m s = result_of (in_mode m (short s (give (seps_of m))))

abbrev pub accepted_both : ℕ → List ℕ → List ℕ → Result Seps Reply
accepted_both m p q = result_of (in_mode m (short p (short q (give (seps_of m)))))
