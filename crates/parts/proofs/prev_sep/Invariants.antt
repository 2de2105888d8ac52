use Rattle.std.proofs.Common.{take, ◌≡◌, ◌≤◌}
use Rattle.octets.specs.Class.{is_sep}
use Rattle.octets.specs.Segment.{end_of}
use Rattle.parts.proofs.prev_sep.Given as goal

abbrev pub invariant-loop-j : goal.invariant-loop-j
invariant-loop-j l = (l.lo ≤ l.j) × (end_of (is_sep l.k) (take l.hi l.s) l.j ≡ l.hi)
