use Rattle.joins.specs.Laws.{tests}
use Rattle.std.proofs.Common.{rules}
use Rattle.joins.proofs.join_behind.Goals as goal

pub returns : goal.returns
returns c = search (rules, tests)
