use Rattle.std.proofs.Common.{arith}
use Rattle.lane_record.proofs.LoopLaws.{listing_step}
use Rattle.lane_record.proofs.writer.put_events.Goals as goal

pub loop-k-preserved : goal.loop-k-preserved
loop-k-preserved c =
    listing_step c.loop-k.invariant (omega arith) c.loop-k-test.true c.put_event.ensures.0 c.put_event.auto.s c.put_event.ensures.1 (omega arith)
