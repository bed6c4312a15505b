use Rattle.lane_word.specs.Word.{lanes}
use Rattle.lane_word.proofs.SpareLaws.{laid_start}
use Rattle.lane_word.proofs.LaneWord.input_domain.Goals as goal

pub loop-lane-init : goal.loop-lane-init
loop-lane-init c = laid_start _ lanes
