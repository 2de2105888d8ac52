use Rattle.matches.specs.StripLaws.{lasts}
use Rattle.std.proofs.Common.{rules}
use Rattle.matches.proofs.last_end.Goals as goal

pub returns-in-None : goal.returns-in-None
returns-in-None c = search (rules, lasts)

pub returns-in-Some : goal.returns-in-Some
returns-in-Some c = search (rules, lasts)
