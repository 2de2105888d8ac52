use Rattle.setters.specs.Laws.{setting}
use Rattle.std.proofs.Common.{rules}
use Rattle.setters.proofs.set_extension_in.Goals as goal

pub returns-then-holds_sep : goal.returns-then-holds_sep
returns-then-holds_sep c = search (rules, setting)

pub returns-in-None : goal.returns-in-None
returns-in-None c = search (rules, setting)

pub returns-in-Some : goal.returns-in-Some
returns-in-Some c = search (rules, setting)
