use Rattle.views.specs.Laws.{climbing}
use Rattle.std.proofs.Common.{rules}
use Rattle.views.proofs.up.Goals as goal

pub returns-in-Ok : goal.returns-in-Ok
returns-in-Ok c = search (rules, climbing)
