use Rattle.paths.specs.WriteLaws.{writes}
use Rattle.std.proofs.Common.{rules}
use Rattle.paths.proofs.writes.join.Goals as goal

pub returns-in-Ok : goal.returns-in-Ok
returns-in-Ok c = search (rules, writes)

pub returns-in-Err : goal.returns-in-Err
returns-in-Err c = search (rules, writes)
