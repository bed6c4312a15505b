use Rattle.std.proofs.Common.{◌≡◌}
use Rattle.lane_memory.specs.Rows.{store_rows}
use Rattle.lane_memory.proofs.store_rows.Given as goal

abbrev pub invariant-loop-k : goal.invariant-loop-k
invariant-loop-k g l = l.rows ≡ store_rows l.initial.rows l.k l.address (λ i x. g.S.Stored.start l.stored i x)
