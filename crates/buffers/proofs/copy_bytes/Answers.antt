use Rattle.std.proofs.Common.{sym, ◌∙◌, refl, arith, take_all}
use Rattle.buffers.specs.Laws.{over_none, over_copy}
use Rattle.buffers.proofs.copy_bytes.Goals as goal

pub loop-i-init : goal.loop-i-init
loop-i-init c = sym (over_none _)

pub loop-i-preserved : goal.loop-i-preserved
loop-i-preserved c = rw c.loop-i.invariant (over_copy _ _ c.loop-i.i (omega arith) (omega arith))

pub returns : goal.returns
returns c = c.loop-i.invariant ∙ rw (take_all c.loop-i.i c.args.src.now (omega arith)) refl
