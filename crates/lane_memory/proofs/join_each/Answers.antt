use Rattle.std.proofs.Common.{◌∙◌, ap, arith}
use Rattle.rv32_arithmetic.specs.Bits.{join}
use Rattle.lane_word.proofs.Lanewise.{done_step}
use Rattle.lane_memory.proofs.Loops.{joined_by}
use Rattle.lane_memory.proofs.join_each.Goals as goal

pub loop-lane-preserved : goal.loop-lane-preserved
loop-lane-preserved g c =
    done_step c.loop-lane.invariant (omega arith)
    (c.low.result, c.low.ensures, c.join.ensures ∙ ap (join c.low.result) (c.loop-lane.invariant.rest c.loop-lane.lane (omega arith)))

pub returns : goal.returns
returns g c = joined_by c.loop-lane.invariant (omega arith) (omega arith)
