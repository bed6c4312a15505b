use Rattle.std.proofs.Common.{◌≡◌, ◌+◌, get_or}
use Rattle.lane_memory.specs.LentRows.{head_bytes}
use Rattle.lane_word.proofs.Lanewise.{Done}
use Rattle.lane_memory.proofs.read_lanes.Given as goal

abbrev pub invariant-loop-lane : goal.invariant-loop-lane
invariant-loop-lane l = Done (λ i z. z ≡ get_or l.row (head_bytes + i) 0) l.initial.value-items l.value-items l.lane
