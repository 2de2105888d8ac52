use Rattle.std.proofs.Common.{length, ◌+◌, ◌≡◌, ◌≤◌}
use Rattle.parts.specs.Steps.{parts_left}
use Rattle.absolute.specs.Leaves.{tail_of, tail_from}
use Rattle.absolute.proofs.tail_len.Given as goal

abbrev pub invariant-loop-x : goal.invariant-loop-x
invariant-loop-x l = record {
  bytes : l.x-iterator.bytes.now ≡ l.s;
  low : l.n ≤ l.x-iterator.at;
  high : l.n ≤ length l.s + 1;
  is : l.n + length (tail_of l.s l.o (parts_left l.x-iterator)) ≡ length (tail_from l.s l.apart l.at);
}
