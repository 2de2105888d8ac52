use Rattle.std.proofs.Common.{length, ◌-◌, ◌≡◌, ◌≤◌}
use Rattle.octets.specs.Class.{is_sep}
use Rattle.parts.specs.Body.{dots, from}
use Rattle.parts.proofs.PartsIterator.next.Given as goal

abbrev pub invariant-loop-i : goal.invariant-loop-i
invariant-loop-i l = (l.self ≡ l.initial.self) × (l.at ≤ l.i) × (from (is_sep l.seps) (dots l.seps) l.bytes l.at ≡ from (is_sep l.seps) (dots l.seps) l.bytes l.i)

abbrev pub decreases-loop-i : goal.decreases-loop-i
decreases-loop-i l = length l.bytes - l.i
