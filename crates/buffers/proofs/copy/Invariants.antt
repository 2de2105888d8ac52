use Rattle.std.proofs.Common.{take, ◌*◌, ◌≡◌}
use Rattle.answers.specs.Written.{over}
use Rattle.buffers.proofs.copy.Given as goal

abbrev pub invariant-loop-k : goal.invariant-loop-k
invariant-loop-k l = l.dst ≡ over (take (16 * l.k) l.src) l.initial.dst
