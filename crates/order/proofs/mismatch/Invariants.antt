use Rattle.std.proofs.Common.{◌≡◌, take}
use Rattle.order.proofs.mismatch.Given as goal

abbrev pub invariant-loop-i : goal.invariant-loop-i
invariant-loop-i l = take l.i l.a ≡ take l.i l.b
