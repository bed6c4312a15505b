use Rattle.std.proofs.Common.{◌≡◌, ◌≤◌}
use Rattle.test_lane_memory.proofs.Filling.store.Given as goal

abbrev pub invariant-loop-k : goal.invariant-loop-k
invariant-loop-k g l = (l.tally.compared ≡ l.k) × (l.tally.differing ≤ l.k)
