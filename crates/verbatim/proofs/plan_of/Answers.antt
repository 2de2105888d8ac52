use Rattle.verbatim.specs.Sharing.{shares}
use Rattle.std.proofs.Common.{rules}
use Rattle.verbatim.proofs.plan_of.Goals as goal

pub returns-in-0-true : goal.returns-in-0-true
returns-in-0-true c = search (rules, shares)

pub returns-in_default : goal.returns-in_default
returns-in_default c = search (rules, shares)

pub returns-in_default-2 : goal.returns-in_default-2
returns-in_default-2 c = search (rules, shares)
