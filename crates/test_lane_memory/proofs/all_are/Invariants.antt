use Rattle.std.proofs.Common.{◌≡◌, ◌≤◌}
use Rattle.test_lane_memory.proofs.all_are.Given as goal

abbrev pub invariant-loop-b : goal.invariant-loop-b
invariant-loop-b l = (l.tally.compared ≡ l.b-index) × (l.tally.differing ≤ l.b-index)
