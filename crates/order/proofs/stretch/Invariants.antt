use Rattle.std.proofs.Common.{take, ◌*◌, ◌≡◌}
use Rattle.order.proofs.stretch.Given as goal

abbrev pub invariant-loop-j : goal.invariant-loop-j
invariant-loop-j l = take (8 * l.j) l.a ≡ take (8 * l.j) l.b
