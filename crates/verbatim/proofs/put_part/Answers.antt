use Rattle.verbatim.specs.Writing.{writes}
use Rattle.std.proofs.Common.{rules}
use Rattle.verbatim.proofs.put_part.Goals as goal

pub returns-clause-out_after : goal.returns-clause-out_after
returns-clause-out_after c = search (rules, writes)
