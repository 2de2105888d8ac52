use Rattle.std.proofs.Common.{take, ◌≡◌}
use Rattle.answers.specs.Written.{over}
use Rattle.buffers.proofs.copy_bytes.Given as goal

abbrev pub invariant-loop-i : goal.invariant-loop-i
invariant-loop-i l = l.dst ≡ over (take l.i l.src) l.initial.dst
