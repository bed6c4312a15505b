use Rattle.std.proofs.Common.{◌∙◌, rules}
use Rattle.lane_record.proofs.LoopLaws.{kinds_no, kinds_step}
use Rattle.lane_record.proofs.reader.kinds_are.Goals as goal

pub returns-then-item-kind : goal.returns-then-item-kind
returns-then-item-kind c =
    let i = c.loop-item.invariant.2 in
    let h = c.in-Some.ensures.steps in
    kinds_no i _ _ _ h.1 h.0.1.0 (h.0.1.1 ∙ i.width) c.requires.0 c.if-item-kind.true

pub loop-item-preserved : goal.loop-item-preserved
loop-item-preserved c =
    let i = c.loop-item.invariant.2 in
    let h = c.in-Some.ensures.steps in
    (search rules, search rules, kinds_step i _ _ _ h.1 h.0.1.0 (h.0.1.1 ∙ i.width) c.requires.0 c.if-item-kind.false (h.0.0 ∙ i.width))
