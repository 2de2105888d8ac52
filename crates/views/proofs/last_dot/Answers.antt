use Rattle.std.proofs.Common.{rules}
use Rattle.views.specs.Laws.{dot_none, dot_found}
use Rattle.views.proofs.last_dot.Goals as goal

pub returns-in-None : goal.returns-in-None
returns-in-None c = dot_none c.args.s.now c.args.lo c.args.hi (search rules) (search rules) (search rules)

pub returns-in-Some : goal.returns-in-Some
returns-in-Some c = dot_found c.args.s.now c.args.lo c.args.hi (search rules) (search rules) c.in-Some.i (search rules) (search rules) (search rules)
