use Rattle.verbatim.specs.Writing.{texts}
use Rattle.std.proofs.Common.{rules}
use Rattle.verbatim.proofs.write_text.Goals as goal

pub returns : goal.returns
returns c = search (rules, texts)
