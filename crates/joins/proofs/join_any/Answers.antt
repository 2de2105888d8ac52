use Rattle.joins.specs.Laws.{joins}
use Rattle.std.proofs.Common.{rules}
use Rattle.joins.proofs.join_any.Goals as goal

pub returns-then-replaces : goal.returns-then-replaces
returns-then-replaces c = search (rules, joins)

pub returns-then-mends : goal.returns-then-mends
returns-then-mends c = search (rules, joins)

pub returns-then-is_root : goal.returns-then-is_root
returns-then-is_root c = search (rules, joins)

pub returns : goal.returns
returns c = search (rules, joins)
