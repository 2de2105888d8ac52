use Rattle.paths.specs.Laws.{calls}
use Rattle.std.proofs.Common.{rules}
use Rattle.paths.proofs.windows_prefix.Goals as goal

pub returns-in-Some : goal.returns-in-Some
returns-in-Some c = search (rules, calls)
