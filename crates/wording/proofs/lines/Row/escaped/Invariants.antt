use Rattle.std.proofs.Common.{take, ◌*◌, ◌+◌, ◌≤◌}
use Rattle.wording.specs.Lines.{escaped_of}
use Rattle.wording.specs.Rows.{Added}
use Rattle.wording.proofs.lines.Row.escaped.Given as goal

abbrev pub invariant-loop-b : goal.invariant-loop-b
invariant-loop-b l =
    record {
      upper_bound : l.self.n ≤ l.initial.self.n + 4 * l.b-index;
      put : Added (escaped_of (take l.b-index l.s)) l.initial.self l.self;
    }
