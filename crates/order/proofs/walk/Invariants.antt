use Rattle.std.proofs.Common.{length, ◌≡◌}
use Rattle.parts.specs.Steps.{parts_left}
use Rattle.order.specs.Leaves.{body_values}
use Rattle.order.specs.Order.{cmp_values}
use Rattle.order.specs.Values.{values_in}
use Rattle.order.proofs.walk.Given as goal

abbrev pub invariant-loop-a : goal.invariant-loop-a
invariant-loop-a l = (l.ours.bytes.now ≡ l.s) × (l.theirs.bytes.now ≡ l.t) × (cmp_values (body_values l.fn.k l.s l.i) (body_values l.fn.h l.t l.j) ≡ cmp_values (values_in l.s (parts_left l.ours)) (values_in l.t (parts_left l.theirs)))

abbrev pub decreases-loop-a : goal.decreases-loop-a
decreases-loop-a l = length (parts_left l.ours)
