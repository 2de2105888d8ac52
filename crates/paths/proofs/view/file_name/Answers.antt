use Rattle.paths.specs.ViewLaws.{views}
use Rattle.std.proofs.Common.{rules}
use Rattle.paths.proofs.view.file_name.Goals as goal

pub returns-in-Err : goal.returns-in-Err
returns-in-Err c = search (rules, views)
