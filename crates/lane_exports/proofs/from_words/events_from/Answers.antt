use Rattle.lane_exports.proofs.WordLaws.{gathering_step}
use Rattle.lane_exports.proofs.from_words.events_from.Goals as goal

pub loop-k-preserved : goal.loop-k-preserved
loop-k-preserved c = gathering_step c.loop-k.invariant c.event_from.result c.loop-k-test.true c.event_from.ensures
