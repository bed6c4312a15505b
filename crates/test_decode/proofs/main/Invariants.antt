use Rattle.std.proofs.Common.{◌≤◌}
use Rattle.test_decode.proofs.main.Given as goal

abbrev pub invariant-loop : goal.invariant-loop
invariant-loop l = (l.refused ≤ l.counter) × (l.differing ≤ l.counter)
