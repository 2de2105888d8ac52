use Rattle.std.proofs.Common.{rules}
use Rattle.paths.specs.GuardLaws.{guards_asked}
use Rattle.paths.proofs.guards.accept_both.Goals as goal

pub returns-in_err-k : goal.returns-in_err-k
returns-in_err-k c = search (rules, guards_asked, c.in_err-k.was, c.from_residual.ensures)
