use Rattle.std.proofs.Common.{rules}
use Rattle.parts.specs.Laws.{begins}
use Rattle.parts.proofs.prev_sep.Goals as goal

pub loop-j-preserved : goal.loop-j-preserved
loop-j-preserved c = search (rules, begins)
