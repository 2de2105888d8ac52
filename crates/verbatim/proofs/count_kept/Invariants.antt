use Rattle.std.proofs.Common.{length}
use Rattle.parts.specs.Steps.{parts_left}
use Rattle.verbatim.specs.Leaves.{Counting, Reading}
use Rattle.verbatim.proofs.count_kept.Given as goal

abbrev pub invariant-loop-x : goal.invariant-loop-x
invariant-loop-x l = record {
  reads : Reading l.s l.fn.t.left (length l.parts.bytes.now) (parts_left l.parts) l.c;
  counts : Counting l.k l.s l.fn.t (length l.parts.bytes.now) (parts_left l.parts) l.c l.n;
}

abbrev pub decreases-loop-x : goal.decreases-loop-x
decreases-loop-x l = length (parts_left l.parts)
