use Rattle.std.proofs.Common.{◌≤◌}
use Rattle.test_predicate_vectors.proofs.next_operation.Given as goal

abbrev pub invariant-loop : goal.invariant-loop
invariant-loop g l = l.differing ≤ l.counter
