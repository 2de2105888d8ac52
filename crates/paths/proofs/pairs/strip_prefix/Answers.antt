use Rattle.paths.specs.PairLaws.{pairs}
use Rattle.std.proofs.Common.{rules}
use Rattle.paths.proofs.pairs.strip_prefix.Goals as goal

pub returns-in-Err : goal.returns-in-Err
returns-in-Err c = search (rules, pairs)
