use Rattle.lane_memory.proofs.Seek.{Seeking}
use Rattle.lane_memory.proofs.find.Given as goal

abbrev pub invariant-loop-left : goal.invariant-loop-left
invariant-loop-left l = Seeking l.rows l.count l.address l.row l.left
