use Rattle.std.proofs.Common.{rules, length}
use Rattle.parts.specs.Steps.{parts_left}
use Rattle.parts.specs.Runs.{turns}
use Rattle.verbatim.specs.Laws.{count_start, count_end, count_keep, count_drop, count_one, count_len, read_start, read_keep, read_drop}
use Rattle.verbatim.proofs.count_kept.Goals as goal

-- with what the loop has kept given, since `search` looks for no more than a few terms that a goal does not show
pub overflow_add-n : goal.overflow_add-n
overflow_add-n c = search (rules, turns, count_one _ _ _ _ _ _ _ c.loop-x.invariant.counts)

pub overflow_add-n-in-Keep : goal.overflow_add-n-in-Keep
overflow_add-n-in-Keep c = search (rules, turns, count_len _ _ _ _ _ _ _ c.loop-x.invariant.counts)

pub loop-x-preserved-in-Keep : goal.loop-x-preserved-in-Keep
loop-x-preserved-in-Keep c = record {
  reads = search (rules, turns, read_keep _ _ _ _ _ c.loop-x.invariant.reads);
  counts = search (rules, turns, count_keep _ _ _ _ _ _ _ c.loop-x.invariant.counts (parts_left c.next_back.new.self) c.in-Some.x (search (rules, turns)) (search (rules, turns)) (length c.next_back.new.self.bytes.now) (search (rules, turns)) c.sift_kind.result c.sift_kind.ensures (search (rules, turns, c.loop-x.invariant.reads)));
}

pub loop-x-preserved : goal.loop-x-preserved
loop-x-preserved c = record {
  reads = search (rules, turns, read_drop _ _ _ _ _ c.loop-x.invariant.reads);
  counts = count_drop _ _ _ _ _ _ _ c.loop-x.invariant.counts (parts_left c.next_back.new.self) c.in-Some.x (search (rules, turns)) (search (rules, turns)) (length c.next_back.new.self.bytes.now) (search (rules, turns)) c.sift_kind.result c.sift_kind.ensures c.in-Drop.d c.in-Drop.is;
}

pub returns : goal.returns
returns c = search (rules, turns, count_end _ _ _ _ _ _ _ c.loop-x.invariant.counts c.loop-x.invariant.reads)

pub loop-x-init : goal.loop-x-init
loop-x-init c = record {
  reads = read_start c.args.k c.args.s.now _ c.args.t.lo c.args.t.hi c.args.t.left _ (search rules) (search (rules, turns)) (search (rules, turns));
  counts = count_start c.args.k c.args.s.now _ c.args.t _ (search rules) (search (rules, turns)) (search (rules, turns));
}
