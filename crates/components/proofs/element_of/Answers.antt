use Rattle.std.proofs.Common.{rules}
use Rattle.components.specs.Laws.{lists}
use Rattle.components.proofs.element_of.Goals as goal

pub returns-then-f-n : goal.returns-then-f-n
returns-then-f-n c = search (rules, lists)

pub returns : goal.returns
returns c = search (rules, lists)
