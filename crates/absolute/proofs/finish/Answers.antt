use Rattle.absolute.specs.Laws.{finishes}
use Rattle.std.proofs.Common.{rules}
use Rattle.absolute.proofs.finish.Goals as goal

pub returns-then-has_room : goal.returns-then-has_room
returns-then-has_room c = search (rules, finishes)
