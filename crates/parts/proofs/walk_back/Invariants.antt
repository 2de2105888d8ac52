use Rattle.std.proofs.Common.{length}
use Rattle.octets.specs.Class.{is_sep}
use Rattle.parts.specs.Body.{dots}
use Rattle.parts.specs.Steps.{parts_left, GoesBack, within}
use Rattle.parts.proofs.walk_back.Given as goal

abbrev pub invariant-loop-p : goal.invariant-loop-p
invariant-loop-p l = GoesBack (within (is_sep l.fn.k) (dots l.fn.k) l.s l.lo l.hi) l.b (parts_left l.parts) l.left

abbrev pub decreases-loop-p : goal.decreases-loop-p
decreases-loop-p l = length (parts_left l.parts)
