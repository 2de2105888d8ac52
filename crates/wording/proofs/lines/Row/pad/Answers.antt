use Rattle.std.proofs.Common.{rules}
use Rattle.wording.specs.Laws.{puts}
use Rattle.wording.proofs.lines.Row.pad.Goals as goal

pub returns-clause-put : goal.returns-clause-put
returns-clause-put c = search (rules, puts)
