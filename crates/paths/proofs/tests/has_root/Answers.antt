use Rattle.paths.specs.TestLaws.{tests}
use Rattle.std.proofs.Common.{rules}
use Rattle.paths.proofs.tests.has_root.Goals as goal

pub returns-in-Ok : goal.returns-in-Ok
returns-in-Ok c = search (rules, tests)

pub returns-in-Err : goal.returns-in-Err
returns-in-Err c = search (rules, tests)
