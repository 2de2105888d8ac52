use Rattle.std.proofs.Common.{length, ◌≡◌, ◌≤◌}
use Rattle.octets.specs.Class.{is_sep}
use Rattle.parts.specs.Body.{dots}
use Rattle.parts.specs.Steps.{within}
use Rattle.parts.proofs.PartsDoubleEndedIterator.next_back.Given as goal

abbrev pub invariant-loop-e : goal.invariant-loop-e
invariant-loop-e l = (l.self ≡ l.initial.self) × (l.e ≤ length l.bytes) × (within (is_sep l.seps) (dots l.seps) l.bytes l.at (length l.bytes) ≡ within (is_sep l.seps) (dots l.seps) l.bytes l.at l.e)

abbrev pub decreases-loop-e : goal.decreases-loop-e
decreases-loop-e l = l.e
