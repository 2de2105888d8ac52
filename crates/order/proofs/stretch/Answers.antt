use Rattle.std.proofs.Common.{◌*◌, arith}
use Rattle.order.specs.Eights.{eight_more}
use Rattle.order.proofs.stretch.Goals as goal

pub loop-j-preserved : goal.loop-j-preserved
loop-j-preserved c = eight_more _ _ (8 * c.loop-j.j) _ _ _ c.loop-j.invariant c.eight_bytes.ensures c.eight_bytes-in-loop-j.ensures c.if-eight_bytes.false (omega arith)
