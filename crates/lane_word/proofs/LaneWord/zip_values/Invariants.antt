use Rattle.std.proofs.Common.{get_or}
use Rattle.lane_word.proofs.Lanewise.{Done}
use Rattle.lane_word.proofs.LaneWord.zip_values.Given as goal

abbrev pub invariant-loop-lane : goal.invariant-loop-lane
invariant-loop-lane g l = Done (λ i r. goal.F-post g l.f (get_or l.fn.self.values i 0) (get_or l.right.values i 0) r) l.fn.self.values l.value-items l.lane
