use Rattle.cursors.specs.Ends.{ends}
use Rattle.cursors.specs.Laws.{opened_in}
use Rattle.std.proofs.Common.{rules}
use Rattle.cursors.proofs.rest_between.Goals as goal

pub overflow_sub-f : goal.overflow_sub-f
overflow_sub-f c = search (rules, ends)

pub overflow_add-result : goal.overflow_add-result
overflow_add-result c = search (rules, ends, opened_in, c.in_ok-x.was, c.in_ok-y.was)

pub returns : goal.returns
returns c = search (rules, ends, c.in_ok-x.was, c.in_ok-y.was)
