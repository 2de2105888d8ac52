use Rattle.joins.specs.Laws.{joins}
use Rattle.std.proofs.Common.{rules}
use Rattle.joins.proofs.join_unix.Goals as goal

pub returns : goal.returns
returns c = search (rules, joins)
