use Rattle.paths.specs.PairLaws.{pairs}
use Rattle.std.proofs.Common.{rules}
use Rattle.paths.proofs.pairs.compare.Goals as goal

pub returns-in-Ok : goal.returns-in-Ok
returns-in-Ok c = search (rules, pairs)

pub returns-in-Err : goal.returns-in-Err
returns-in-Err c = search (rules, pairs)
