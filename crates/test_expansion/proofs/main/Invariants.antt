use Rattle.std.proofs.Common.{◌+◌, ◌≤◌}
use Rattle.test_expansion.proofs.main.Given as goal

-- each halfword is counted once
abbrev pub invariant-loop-raw : goal.invariant-loop-raw
invariant-loop-raw l = l.by_rust + l.by_assembler + l.refused + l.differing ≤ l.raw
