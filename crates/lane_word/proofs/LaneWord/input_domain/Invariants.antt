use Rattle.std.proofs.Common.{◌≡◌}
use Rattle.lane_word.specs.Word.{lanes}
use Rattle.lane_word.proofs.SpareLaws.{laid}
use Rattle.lane_word.proofs.LaneWord.input_domain.Given as goal

abbrev pub invariant-loop-lane : goal.invariant-loop-lane
invariant-loop-lane l = l.values ≡ laid l.first lanes l.lane
