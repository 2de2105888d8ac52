use Rattle.order.proofs.Laws.{headings}
use Rattle.matches.specs.Laws.{follows}
use Rattle.std.proofs.Common.{rules}
use Rattle.matches.proofs.follow.Goals as goal

pub returns-in-Same : goal.returns-in-Same
returns-in-Same c = search (rules, follows, headings)

pub returns-in-First : goal.returns-in-First
returns-in-First c = search (rules, follows, headings)
