use Rattle.std.proofs.Common.{take, ◌++◌, ◌≡◌}
use Rattle.parts.specs.Steps.{parts_left}
use Rattle.absolute.specs.Leaves.{tail_of, tail_from}
use Rattle.buffers.specs.Laws.{Front}
use Rattle.absolute.proofs.write_tail.Given as goal

abbrev pub invariant-loop-x : goal.invariant-loop-x
invariant-loop-x l = record {
  bytes : l.x-iterator.bytes.now ≡ l.s;
  front : Front (take l.begin l.initial.out ++ tail_from l.s l.apart l.at) l.initial.out (tail_of l.s l.o (parts_left l.x-iterator)) l.n l.out;
}
