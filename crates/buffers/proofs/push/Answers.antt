use Rattle.std.proofs.Common.{arith}
use Rattle.buffers.specs.Laws.{over_push}
use Rattle.buffers.proofs.push.Goals as goal

pub returns-clause-out_after : goal.returns-clause-out_after
returns-clause-out_after c = over_push _ _ _ c.args.n c.copy_bytes.ensures (omega arith)
