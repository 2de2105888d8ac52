use Rattle.cursors.specs.Ends.{ends}
use Rattle.std.proofs.Common.{rules}
use Rattle.cursors.proofs.rest_second.Goals as goal

pub returns : goal.returns
returns c = search (rules, ends, c.in_ok-x.was)
