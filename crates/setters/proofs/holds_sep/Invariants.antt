use Rattle.std.proofs.Common.{◌≡◌}
use Rattle.octets.specs.Class.{is_sep}
use Rattle.setters.specs.Set.{holds}
use Rattle.setters.specs.Leaves.{holds_from}
use Rattle.setters.proofs.holds_sep.Given as goal

abbrev pub invariant-loop-b : goal.invariant-loop-b
invariant-loop-b l = holds (is_sep l.k) l.e ≡ holds_from (is_sep l.k) l.e l.b-index
