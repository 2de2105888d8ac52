use Rattle.std.proofs.Common.{rules}
use Rattle.components.specs.Laws.{heads}
use Rattle.components.proofs.drive_start.Goals as goal

pub bounds-s-0 : goal.bounds-s-0
bounds-s-0 c = search (rules, heads)

pub returns : goal.returns
returns c = search (rules, heads)
