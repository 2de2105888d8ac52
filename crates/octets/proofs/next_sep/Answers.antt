use Rattle.std.proofs.Common.{arith}
use Rattle.octets.specs.Laws.{near_some, near_none}
use Rattle.octets.proofs.next_sep.Goals as goal

pub returns-in-Some : goal.returns-in-Some
returns-in-Some c = near_some _ _ _ c.min-near.result c.scan.result (omega arith) (omega arith) c.scan.ensures c.in-Some.i c.in-Some.is

pub returns-in-None : goal.returns-in-None
returns-in-None c = near_none _ _ _ c.min-near.result c.scan.result (omega arith) (omega arith) c.scan.ensures _ c.in-None.is c.far_sep.ensures
