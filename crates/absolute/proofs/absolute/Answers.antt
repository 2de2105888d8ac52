use Rattle.absolute.specs.Laws.{replies}
use Rattle.std.proofs.Common.{rules}
use Rattle.absolute.proofs.absolute.Goals as goal

pub returns-then-is_empty : goal.returns-then-is_empty
returns-then-is_empty c = search (rules, replies)

pub returns-then-two_slashes : goal.returns-then-two_slashes
returns-then-two_slashes c = search (rules, replies)

pub returns-then-is_absolute : goal.returns-then-is_absolute
returns-then-is_absolute c = search (rules, replies)

pub returns-then-sep_at : goal.returns-then-sep_at
returns-then-sep_at c = search (rules, replies)

pub returns : goal.returns
returns c = search (rules, replies)
