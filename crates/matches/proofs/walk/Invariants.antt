use Rattle.std.proofs.Common.{length, drop, ◌≡◌}
use Rattle.parts.specs.Steps.{parts_left}
use Rattle.order.specs.Values.{values_in}
use Rattle.matches.specs.Leaves.{left_body, starts_body}
use Rattle.matches.specs.Match.{starts_with}
use Rattle.matches.proofs.walk.Given as goal

abbrev pub invariant-loop-b : goal.invariant-loop-b
invariant-loop-b l = record {
  seps : l.ours.seps ≡ l.fn.k;
  ours : l.ours.bytes.now ≡ l.s;
  at : l.ours.at ≡ l.x;
  theirs : l.b-iterator.bytes.now ≡ l.t;
  starts : starts_body l.fn.k l.s l.i l.fn.h l.t l.j ≡ starts_with (values_in l.s (parts_left l.ours)) (values_in l.t (parts_left l.b-iterator));
  left : left_body l.fn.k l.s l.i l.fn.h l.t l.j ≡ drop (length (parts_left l.b-iterator)) (parts_left l.ours);
}
