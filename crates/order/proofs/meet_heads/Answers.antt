use Rattle.order.proofs.Laws.{headings}
use Rattle.std.proofs.Common.{rules}
use Rattle.order.proofs.meet_heads.Goals as goal

pub returns-in-Some-Some : goal.returns-in-Some-Some
returns-in-Some-Some c = search (rules, headings)
