use Rattle.lane_memory.proofs.Seek.{seek_on}
use Rattle.lane_memory.proofs.find.Goals as goal

pub loop-left-preserved : goal.loop-left-preserved
loop-left-preserved c =
    seek_on c.loop-left.invariant c.loop-left-test.true c.as_chunks.ensures.front c.probe_row.ensures c.in-Other.is c.onward-row.ensures
