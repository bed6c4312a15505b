use Rattle.std.specs.Prelude.{Some}
use Rattle.std.proofs.Common.{◌≡◌}
use Rattle.lane_access.specs.Seen.{told_seen, told_read}
use Rattle.lane_access.proofs.Loads.{rest}
use Rattle.lane_access.proofs.told_join.Given as goal

abbrev pub invariant-loop-k : goal.invariant-loop-k
invariant-loop-k l = Some l.number ≡ rest (told_read (told_seen l.image l.rows)) l.width l.address l.k
