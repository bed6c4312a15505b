use Rattle.std.proofs.Common.{◌≡◌, ◌+◌, ◌*◌, ◌≤◌}
use Rattle.lane_word.specs.Word.{lanes}
use Rattle.test_lane_memory.proofs.read_word.Given as goal

abbrev pub invariant-loop-k : goal.invariant-loop-k
invariant-loop-k l = (l.tally.compared ≡ (lanes + 1) * l.k) × (l.tally.differing ≤ (lanes + 1) * l.k)
