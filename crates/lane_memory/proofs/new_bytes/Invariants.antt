use Rattle.std.proofs.Common.{◌≡◌, ◌≤◌}
use Rattle.lane_memory.specs.Rows.{new_bytes}
use Rattle.lane_memory.proofs.new_bytes.Given as goal

abbrev pub invariant-loop-k : goal.invariant-loop-k
invariant-loop-k l = (l.new ≤ l.k) × (l.new ≡ new_bytes l.rows l.k l.address)
