use Rattle.order.proofs.Laws.{orders}
use Rattle.order.proofs.Laws.{headings}
use Rattle.std.proofs.Common.{rules}
use Rattle.order.proofs.compare_behind.Goals as goal

pub returns-in-Apart : goal.returns-in-Apart
returns-in-Apart c = search (rules, headings, orders)
