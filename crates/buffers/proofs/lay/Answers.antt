use Rattle.std.proofs.Common.{rules}
use Rattle.buffers.specs.Laws.{gaps}
use Rattle.buffers.proofs.lay.Goals.{then-apart, else-apart}
use Rattle.buffers.proofs.lay.Goals as goal

pub returns-then-out-whole : goal.returns-then-out-whole
returns-then-out-whole c = search (rules, gaps)

pub returns : goal.returns
returns c = elim c.if-apart.branch [ then-apart w ↦ search (rules, gaps) | else-apart w ↦ search (rules, gaps) ]
