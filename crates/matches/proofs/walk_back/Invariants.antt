use Rattle.std.proofs.Common.{length, ◌≡◌, ◌≤◌}
use Rattle.parts.specs.Steps.{parts_left}
use Rattle.matches.specs.Leaves.{Ahead, all_of, front_of}
use Rattle.matches.specs.Match.{ends_with}
use Rattle.matches.proofs.walk_back.Given as goal

abbrev pub invariant-loop-b : goal.invariant-loop-b
invariant-loop-b l = record {
  ours : length l.ours.bytes.now ≤ length l.s;
  theirs : length l.b-iterator.iter.bytes.now ≤ length l.t;
  is : ends_with (all_of l.s l.g) (all_of l.t l.h) ≡ ends_with (front_of l.s l.g (parts_left l.ours)) (front_of l.t l.h (parts_left l.b-iterator.iter));
  ahead : Ahead l.t l.h (parts_left l.b-iterator.iter);
}
