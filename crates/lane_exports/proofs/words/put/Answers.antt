use Rattle.std.proofs.Common.{arith}
use Rattle.lane_exports.proofs.WordLaws.{placed}
use Rattle.lane_exports.proofs.words.put.Goals as goal

pub returns : goal.returns
returns c = placed c.args.s.now c.args.at _ _ c.args.words.now c.copy_from_slice.ensures.after (omega arith) (omega arith)
