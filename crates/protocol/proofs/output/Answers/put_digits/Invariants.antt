use Rattle.std.proofs.Common.{◌≡◌, ◌+◌, ◌≤◌}
use Rattle.protocol.proofs.output.Answers.put_digits.Given as goal

abbrev pub invariant-loop-first : goal.invariant-loop-first
invariant-loop-first l = l.first ≤ 20

abbrev pub decreases-loop-first : goal.decreases-loop-first
decreases-loop-first l = l.first

abbrev pub invariant-loop-d : goal.invariant-loop-d
invariant-loop-d l = l.at ≡ l.initial.at + l.d-index
