use Rattle.std.proofs.Common.{length, ◌-◌}
use Rattle.lane_word.proofs.Scan.{Scanned}
use Rattle.lane_word.proofs.tell.Given as goal

abbrev pub invariant-loop-k : goal.invariant-loop-k
invariant-loop-k l = Scanned (length l.values) l.values l.first l.k

abbrev pub decreases-loop-k : goal.decreases-loop-k
decreases-loop-k l = length l.values - l.k
