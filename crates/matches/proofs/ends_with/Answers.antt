use Rattle.matches.specs.EndLaws.{backs}
use Rattle.std.proofs.Common.{rules}
use Rattle.matches.proofs.ends_with.Goals as goal

pub walk_back-requires : goal.walk_back-requires
walk_back-requires c = search (rules, backs)
