use Rattle.verbatim.specs.Writing.{joins}
use Rattle.std.proofs.Common.{rules}
use Rattle.verbatim.proofs.join.Goals as goal

pub returns-then-out-n : goal.returns-then-out-n
returns-then-out-n c = search (rules, joins)

pub returns : goal.returns
returns c = search (rules, joins)
