use Rattle.std.proofs.Common.{rules}
use Rattle.parts.specs.Steps.{parts_left}
use Rattle.parts.specs.Runs.{turns}
use Rattle.verbatim.specs.Laws.{read_start, read_keep, read_drop}
use Rattle.verbatim.specs.Writing.{write_start, write_place, write_end, write_drop, write_room, write_keep}
use Rattle.verbatim.proofs.write_kept.Goals as goal

-- with what the loop has kept given, since `search` looks for no more than a few terms that a goal does not show
pub put_part-j-requires-clause-len_bound : goal.put_part-j-requires-clause-len_bound
put_part-j-requires-clause-len_bound c = (search (rules, turns, write_room _ _ _ _ _ _ _ _ _ c.loop-x.invariant.stands), search rules)

pub loop-x-preserved-in-Keep : goal.loop-x-preserved-in-Keep
loop-x-preserved-in-Keep c = record {
  reads = search (rules, turns, read_keep _ _ _ _ _ c.loop-x.invariant.reads);
  stands = write_keep _ _ _ _ _ _ _ _ _ c.loop-x.invariant.stands (parts_left c.next_back.new.self) c.in-Some.x (search (rules, turns)) c.sift_kind.result c.sift_kind.ensures c.in-Keep.is (search (rules, turns, c.loop-x.invariant.reads)) c.put_part-j.result c.put_part-j.new.out c.put_part-j.ensures.k_value c.put_part-j.ensures.out_after;
}

pub loop-x-preserved : goal.loop-x-preserved
loop-x-preserved c = record {
  reads = search (rules, turns, read_drop _ _ _ _ _ c.loop-x.invariant.reads);
  stands = search (rules, turns, write_drop _ _ _ _ _ _ _ _ _ c.loop-x.invariant.stands);
}

pub returns-clause-n_value : goal.returns-clause-n_value
returns-clause-n_value c = search (rules, turns, write_place _ _ _ _ _ _ _ _ _ c.loop-x.invariant.stands)

pub returns-clause-out_after : goal.returns-clause-out_after
returns-clause-out_after c = search (rules, turns, write_end _ _ _ _ _ _ _ _ _ c.loop-x.invariant.stands)

pub loop-x-init : goal.loop-x-init
loop-x-init c = record {
  reads = read_start c.args.k c.args.s.now _ c.args.t.lo c.args.t.hi c.args.t.left _ (search rules) (search (rules, turns)) (search (rules, turns));
  stands = write_start c.args.k c.args.s.now c.args.t.lo c.args.t.hi c.args.t.left _ _ _ (search (rules, turns)) (search rules) (search rules);
}
