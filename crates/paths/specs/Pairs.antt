-- The public calls of two paths: order, starts, ends, strip; and the guards in front of every call of two inputs.
use Rattle.std.specs.Prelude.{ℕ, List, Bool}
use Rattle.octets.specs.Class.{seps_of}
use Rattle.octets.specs.declared.Seps.{Seps}
use Rattle.answers.specs.declared.Verdict.{Verdict}
use Rattle.answers.specs.declared.View.{View}
use Rattle.answers.specs.Reply.{bit, judged}
use Rattle.answers.specs.Outcome.{Outcome, give, in_mode, short}
use Rattle.order.specs.Order.{compare_of, order_number}
use Rattle.matches.specs.Match.{starts_of, ends_of}
use Rattle.matches.specs.Strip.{strip_of}

-- Mode, Length of either input, and behind them what f comes to
unfoldable pub pair_call : {A : Type 0} → (Seps → List ℕ → List ℕ → Outcome A) → ℕ → List ℕ → List ℕ → Outcome A
pair_call f m p q = in_mode m (short p (short q (f (seps_of m) p q)))

abbrev pub compared_as : Seps → List ℕ → List ℕ → Outcome Verdict
compared_as k p q = give (judged (order_number (compare_of k p q)))

abbrev pub tested_as : (Seps → List ℕ → List ℕ → Bool) → Seps → List ℕ → List ℕ → Outcome Verdict
tested_as t k p q = give (judged (bit (t k p q)))

abbrev pub compare_call : ℕ → List ℕ → List ℕ → Outcome Verdict
compare_call = pair_call compared_as

abbrev pub starts_call : ℕ → List ℕ → List ℕ → Outcome Verdict
starts_call = pair_call (tested_as starts_of)

abbrev pub ends_call : ℕ → List ℕ → List ℕ → Outcome Verdict
ends_call = pair_call (tested_as ends_of)

abbrev pub strip_call : ℕ → List ℕ → List ℕ → Outcome View
strip_call = pair_call strip_of
