use Rattle.paths.specs.AbsoluteLaws.{absolutes}
use Rattle.std.proofs.Common.{rules}
use Rattle.paths.proofs.absolutes.absolute.Goals as goal

pub returns-then-mode-gt0 : goal.returns-then-mode-gt0
returns-then-mode-gt0 c = search (rules, absolutes)

pub returns-in-Ok : goal.returns-in-Ok
returns-in-Ok c = search (rules, absolutes)

pub returns-in-Err : goal.returns-in-Err
returns-in-Err c = search (rules, absolutes)
