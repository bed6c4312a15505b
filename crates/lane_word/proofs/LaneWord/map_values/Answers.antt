use Rattle.std.proofs.Common.{rules}
use Rattle.lane_word.proofs.Lanewise.{unary_done}
use Rattle.lane_word.proofs.LaneWord.map_values.Goals as goal

pub returns : goal.returns
returns g c = λ operation computes. unary_done c.args.self _ (search rules) (search rules) (search rules) computes
