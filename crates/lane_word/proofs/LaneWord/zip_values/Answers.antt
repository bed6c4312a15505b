use Rattle.std.proofs.Common.{rules}
use Rattle.lane_word.proofs.Lanewise.{binary_done}
use Rattle.lane_word.proofs.LaneWord.zip_values.Goals as goal

pub returns : goal.returns
returns g c = λ operation computes. binary_done c.args.self c.args.right _ (search rules) (search rules) (search rules) (search rules) computes
