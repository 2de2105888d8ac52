use Rattle.paths.specs.Laws.{calls}
use Rattle.std.proofs.Common.{rules}
use Rattle.paths.proofs.prefix.Goals as goal

pub returns-in-Err : goal.returns-in-Err
returns-in-Err c = search (rules, calls)
