use Rattle.std.proofs.Common.{rules}
use Rattle.components.specs.Laws.{lists}
use Rattle.components.proofs.head_back.Goals as goal

pub returns-then-b-n : goal.returns-then-b-n
returns-then-b-n c = search (rules, lists)

pub returns : goal.returns
returns c = search (rules, lists)
