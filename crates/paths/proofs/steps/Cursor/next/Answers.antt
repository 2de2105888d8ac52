use Rattle.paths.specs.StepLaws.{step_calls}
use Rattle.std.proofs.Common.{rules}
use Rattle.paths.proofs.steps.Cursor.next.Goals as goal

pub step_front-requires : goal.step_front-requires
step_front-requires c = search (rules, step_calls)

pub returns-in-Err : goal.returns-in-Err
returns-in-Err c = search (rules, step_calls)
