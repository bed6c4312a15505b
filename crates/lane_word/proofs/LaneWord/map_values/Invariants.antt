use Rattle.std.proofs.Common.{get_or}
use Rattle.lane_word.proofs.Lanewise.{Done}
use Rattle.lane_word.proofs.LaneWord.map_values.Given as goal

abbrev pub invariant-loop-value : goal.invariant-loop-value
invariant-loop-value g l = Done (λ i r. goal.F-post g l.f (get_or l.fn.self.values i 0) r) l.fn.self.values l.value-items l.value-index
