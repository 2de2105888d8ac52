use Rattle.std.proofs.Common.{rules, refl}
use Rattle.parts.specs.Laws.{lasts}
use Rattle.parts.proofs.PartsDoubleEndedIterator.next_back.Goals as goal

-- field by field: whole, the goal is deeper than `search` goes
pub returns-in-Some-clause-steps : goal.returns-in-Some-clause-steps
returns-in-Some-clause-steps c = (
  search (rules, lasts),
  record { seps = refl; at = refl; high = search (rules, lasts); bytes = search (rules, lasts); is = search (rules, lasts) },
)

pub returns-in-Some-clause-goes : goal.returns-in-Some-clause-goes
returns-in-Some-clause-goes c = search (rules, lasts)
