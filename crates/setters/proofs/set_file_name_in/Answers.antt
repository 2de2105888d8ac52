use Rattle.setters.specs.Laws.{setting}
use Rattle.std.proofs.Common.{rules}
use Rattle.setters.proofs.set_file_name_in.Goals as goal

pub returns : goal.returns
returns c = search (rules, setting)
