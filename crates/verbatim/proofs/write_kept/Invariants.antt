use Rattle.std.proofs.Common.{length}
use Rattle.parts.specs.Steps.{parts_left}
use Rattle.verbatim.specs.Leaves.{Reading, stretch_text, text_of}
use Rattle.verbatim.specs.Writing.{StandsAt}
use Rattle.verbatim.proofs.write_kept.Given as goal

abbrev pub invariant-loop-x : goal.invariant-loop-x
invariant-loop-x l = record {
  reads : Reading l.s l.fn.t.left (length l.parts.bytes.now) (parts_left l.parts) l.c;
  stands : StandsAt (stretch_text l.k l.s l.fn.t) l.initial.out l.n (text_of l.k l.s (parts_left l.parts) l.c) l.j l.out;
}

abbrev pub decreases-loop-x : goal.decreases-loop-x
decreases-loop-x l = length (parts_left l.parts)
