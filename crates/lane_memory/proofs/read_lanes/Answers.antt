use Rattle.std.proofs.Common.{rules}
use Rattle.lane_memory.proofs.Loops.{lanes_read}
use Rattle.lane_memory.proofs.read_lanes.Goals as goal

pub returns : goal.returns
returns c = lanes_read c.args.row.now c.loop-lane.invariant (search rules) (search rules) (search rules)
