use Rattle.std.proofs.Common.{rules}
use Rattle.parts.specs.Runs.{turns}
use Rattle.matches.specs.EndLaws.{backs, back_on, back_off, back_short}
use Rattle.matches.proofs.walk_back.Goals as goal

-- with what the loop has kept given, since `search` looks for no more than a few terms that a goal does not show
pub returns-in_default : goal.returns-in_default
returns-in_default c = search (rules, turns, back_short _ _ _ _ _ _ _ c.loop-b.invariant.is)

pub returns-then-ne : goal.returns-then-ne
returns-then-ne c = search (rules, turns, back_off _ _ _ _ _ _ _ c.loop-b.invariant.is)

pub loop-b-preserved : goal.loop-b-preserved
loop-b-preserved c = record {
  ours = search (rules, turns);
  theirs = search (rules, turns);
  is = search (rules, turns, back_on _ _ _ _ _ _ _ c.loop-b.invariant.is);
  ahead = search (rules, backs, turns);
}
