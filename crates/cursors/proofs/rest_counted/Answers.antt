use Rattle.std.proofs.Common.{rules}
use Rattle.cursors.specs.Laws.{cursors}
use Rattle.cursors.proofs.rest_counted.Goals as goal

pub returns-then-n-f : goal.returns-then-n-f
returns-then-n-f c = search (rules, cursors)

pub returns-then-n-f-2 : goal.returns-then-n-f-2
returns-then-n-f-2 c = search (rules, cursors)

pub returns : goal.returns
returns c = search (rules, cursors)
