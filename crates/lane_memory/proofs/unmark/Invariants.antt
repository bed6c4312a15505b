use Rattle.std.proofs.Common.{◌≡◌}
use Rattle.lane_memory.specs.Rows.{unmark_rows}
use Rattle.lane_memory.proofs.unmark.Given as goal

abbrev pub invariant-loop-row : goal.invariant-loop-row
invariant-loop-row l = l.rows ≡ unmark_rows l.row l.initial.rows
