use Rattle.std.proofs.Common.{◌≤◌}
use Rattle.test_arithmetic.proofs.count.Given as goal

abbrev pub invariant-loop-k : goal.invariant-loop-k
invariant-loop-k g l = (l.counts.pairs ≤ l.k) × (l.counts.words ≤ l.k) × (l.counts.lanes ≤ l.k)
