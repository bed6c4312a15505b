use Rattle.std.proofs.Common.{◌≡◌, ◌+◌, ◌≤◌, length}
use Rattle.test_lane_memory.proofs.bytes_of.Given as goal

abbrev pub invariant-loop-got : goal.invariant-loop-got
invariant-loop-got l = (l.tally.compared ≡ 1 + length l.yielded) × (l.tally.differing ≤ 1 + length l.yielded)
