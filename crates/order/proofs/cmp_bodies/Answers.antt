use Rattle.order.proofs.Laws.{skips}
use Rattle.std.proofs.Common.{rules}
use Rattle.order.proofs.cmp_bodies.Goals as goal

pub returns : goal.returns
returns c = search (rules, skips)
