use Rattle.std.proofs.Common.{rules}
use Rattle.wording.specs.Laws.{escapes}
use Rattle.wording.proofs.lines.Row.escaped.Goals as goal

pub loop-b-init : goal.loop-b-init
loop-b-init c = search (rules, escapes)

pub loop-b-preserved : goal.loop-b-preserved
loop-b-preserved c = search (rules, escapes)
