use Rattle.std.proofs.Common.{sym, arith, ◌*◌, ◌+◌, ◌≡◌}
use Rattle.buffers.specs.Laws.{over_none, over_block, block_last}
use Rattle.buffers.proofs.copy.Goals as goal

pub loop-k-init : goal.loop-k-init
loop-k-init c = sym (over_none _)

pub loop-k-preserved : goal.loop-k-preserved
loop-k-preserved c =
    let at = c.loop-k in
    let next : 16 * (at.k + 1) ≡ 16 * at.k + 16 = omega arith in
    rw next (over_block _ _ _ _ (16 * at.k) (16 * at.k) at.invariant (omega arith) (omega arith) (omega arith) c.copy_block.ensures)

pub returns : goal.returns
returns c =
    let at = c.loop-k in
    block_last _ _ _ _ (16 * at.k) at.invariant (omega arith) (omega arith) (omega arith) c.copy_block-2.ensures
