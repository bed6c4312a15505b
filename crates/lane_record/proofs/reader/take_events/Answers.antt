use Rattle.std.proofs.Common.{◌∙◌, rules}
use Rattle.lane_record.proofs.LoopLaws.{taking_step}
use Rattle.lane_record.proofs.reader.take_events.Goals as goal

pub loop-k-preserved : goal.loop-k-preserved
loop-k-preserved c =
    let i = c.loop-k.invariant.2 in
    let h = c.in-Some.ensures.steps in
    (search rules, search rules, taking_step i (record { one = h.0.1; parts = h.0.0.1.0; whole = h.0.0.1.1 ∙ i.width }) c.event_at.result c.event_at.ensures h.1 h.2 (h.0.0.0 ∙ i.width))
