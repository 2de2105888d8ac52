use Rattle.std.proofs.Common.{rules}
use Rattle.parts.specs.Runs.{turns}
use Rattle.parts.specs.Steps.{parts_left}
use Rattle.absolute.specs.Leaves.{tail_from}
use Rattle.absolute.specs.Laws.{on_gap, on_room, on_put, end_put, stop_open, front_start}
use Rattle.absolute.proofs.write_tail.Goals as goal

-- with what the loop has kept given, since `search` looks for no more than a few terms that a goal does not show
pub loop-x-init : goal.loop-x-init
loop-x-init c = record { bytes = search (rules, turns); front = search (rules, front_start) }

pub put_gap-m-requires : goal.put_gap-m-requires
put_gap-m-requires c = search (rules, turns, on_gap _ _ _ _ _ _ _ c.loop-x.invariant.front)

pub push-n-requires : goal.push-n-requires
push-n-requires c = search (rules, turns, on_room _ _ _ _ _ _ _ c.loop-x.invariant.front)

pub loop-x-preserved : goal.loop-x-preserved
loop-x-preserved c = record { bytes = search (rules, turns); front = search (rules, turns, on_put _ _ _ _ _ _ _ c.loop-x.invariant.front c.in-Some.x (parts_left c.next.new.self)) }

pub returns-then-ends_sep-clause-r_value : goal.returns-then-ends_sep-clause-r_value
returns-then-ends_sep-clause-r_value c = search (rules, turns, stop_open c.args.out.now (tail_from c.args.s.now c.args.apart c.args.at) c.args.s.now c.args.begin _ _ _ _ c.loop-x.invariant.front)

pub returns-then-ends_sep-clause-out_after : goal.returns-then-ends_sep-clause-out_after
returns-then-ends_sep-clause-out_after c = search (rules, turns, end_put _ _ _ _ _ _ _ c.loop-x.invariant.front)
