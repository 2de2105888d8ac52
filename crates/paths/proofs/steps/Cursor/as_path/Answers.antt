use Rattle.paths.specs.StepLaws.{step_calls}
use Rattle.std.proofs.Common.{rules}
use Rattle.paths.proofs.steps.Cursor.as_path.Goals as goal

pub returns-in-Some : goal.returns-in-Some
returns-in-Some c = search (rules, step_calls)

pub returns-in-Err : goal.returns-in-Err
returns-in-Err c = search (rules, step_calls)
