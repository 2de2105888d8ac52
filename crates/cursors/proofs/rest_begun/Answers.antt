use Rattle.std.proofs.Common.{rules}
use Rattle.cursors.specs.Ends.{seen_is}
use Rattle.cursors.proofs.rest_begun.Goals as goal

pub returns-in-Some : goal.returns-in-Some
returns-in-Some c = search (rules, seen_is, c.args.o.now.open)
