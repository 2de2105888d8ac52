use Rattle.setters.specs.Laws.{setting}
use Rattle.std.proofs.Common.{rules}
use Rattle.setters.proofs.put_extension.Goals as goal

pub returns : goal.returns
returns c = search (rules, setting)
