use Rattle.std.proofs.Common.{◌≡◌, ◌≤◌, ◌==◌, not, take, count_by}
use Rattle.test_support.proofs.unlike.Given as goal

abbrev pub invariant-loop-b : goal.invariant-loop-b
invariant-loop-b l = (l.count ≡ count_by (λ b. not (b == l.byte)) (take l.b-index l.bytes)) × (l.count ≤ l.b-index)
