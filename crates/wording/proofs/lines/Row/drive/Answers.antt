use Rattle.std.proofs.Common.{rules}
use Rattle.wording.specs.Laws.{puts}
use Rattle.wording.proofs.lines.Row.drive.Goals as goal

pub returns : goal.returns
returns c = search (rules, puts)
