use Rattle.paths.specs.StepLaws.{step_calls}
use Rattle.std.proofs.Common.{rules}
use Rattle.paths.proofs.steps.Cursor.next_back.Goals as goal

pub step_back-requires : goal.step_back-requires
step_back-requires c = search (rules, step_calls)

pub returns-in-Err : goal.returns-in-Err
returns-in-Err c = search (rules, step_calls)
