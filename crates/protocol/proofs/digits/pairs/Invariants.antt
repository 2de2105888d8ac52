use Rattle.std.proofs.Common.{◌≡◌, ◌+◌, take}
use Rattle.protocol.specs.Digits.{pairs_at, pairs_of, prepended}
use Rattle.protocol.proofs.digits.pairs.Given as goal

abbrev pub invariant-loop-k : goal.invariant-loop-k
invariant-loop-k l = pairs_of l.w ≡ prepended (take l.k l.out) (pairs_at l.w (l.k + l.k))
