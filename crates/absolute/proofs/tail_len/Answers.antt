use Rattle.std.proofs.Common.{rules}
use Rattle.parts.specs.Runs.{turns}
use Rattle.absolute.specs.Laws.{lens, len_on, len_open, len_shut}
use Rattle.absolute.proofs.tail_len.Goals as goal

-- with what the loop has kept given, since `search` looks for no more than a few terms that a goal does not show
pub loop-x-preserved : goal.loop-x-preserved
loop-x-preserved c = record {
  bytes = search (rules, turns);
  low = search (rules, lens, turns);
  high = search (rules, lens, turns);
  is = search (rules, turns, len_on _ _ _ _ _ _ c.loop-x.invariant.is);
}

pub returns-then-ends_sep : goal.returns-then-ends_sep
returns-then-ends_sep c = search (rules, turns, len_open _ _ _ _ _ _ c.loop-x.invariant.is)

pub returns : goal.returns
returns c = search (rules, turns, len_shut _ _ _ _ _ _ c.loop-x.invariant.is)
