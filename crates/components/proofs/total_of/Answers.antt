use Rattle.std.proofs.Common.{rules}
use Rattle.components.specs.Laws.{lists}
use Rattle.components.proofs.total_of.Goals as goal

pub overflow_add-result : goal.overflow_add-result
overflow_add-result c = search (rules, lists)

pub returns : goal.returns
returns c = search (rules, lists)
