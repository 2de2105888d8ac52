use Rattle.std.proofs.Common.{refl, arith}
use Rattle.buffers.specs.Laws.{block_done}
use Rattle.buffers.proofs.copy_block.Goals as goal

pub returns : goal.returns
returns c = block_done _ _ _ _ _ c.args.i c.copy_bytes.ensures c.copy_bytes-2.ensures refl (omega arith) (omega arith)
