use Rattle.std.proofs.Common.{rules}
use Rattle.cursors.specs.Laws.{head_dot}
use Rattle.cursors.proofs.head_end.Goals as goal

pub returns-then-is_dotted : goal.returns-then-is_dotted
returns-then-is_dotted c = search (rules, head_dot c.args.o.now c.is_dotted.result)
