use Rattle.std.proofs.Common.{◌≡◌, ◌<◌, ◌^◌}
use Rattle.protocol.specs.Digits.{number_in, read_at}
use Rattle.protocol.proofs.digits.value_of.Given as goal

abbrev pub invariant-loop-b : goal.invariant-loop-b
invariant-loop-b l = (l.v < 2 ^ 64) × (number_in l.w ≡ read_at l.v l.w l.b-index)
