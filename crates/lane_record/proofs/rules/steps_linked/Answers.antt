use Rattle.std.proofs.Common.{sym, ◌∙◌, rules}
use Rattle.lane_record.proofs.LoopLaws.{linking_start, linking_no, linking_step, linking_end}
use Rattle.lane_record.proofs.rules.steps_linked.Goals as goal

pub loop-item-init : goal.loop-item-init
loop-item-init c = (
  search rules,
  search rules,
  linking_start c.args.p c.args.n c.get-due.result c.args.items.now c.if-n-eq0.false c.requires c.get-due.ensures (search rules) (search rules) (search rules),
)

pub returns-then-not-follows : goal.returns-then-not-follows
returns-then-not-follows c =
    let i = c.loop-item.invariant.2 in
    let h = c.in-Some.ensures.steps in
    linking_no i (record { one = h.1; parts = h.0.1.0; whole = h.0.1.1 ∙ i.width }) c.step_at-step.result c.step_at-step.ensures (sym c.if-not-follows.ensures)

pub loop-item-preserved : goal.loop-item-preserved
loop-item-preserved c =
    let i = c.loop-item.invariant.2 in
    let h = c.in-Some.ensures.steps in (
      search rules,
      search rules,
      linking_step i (record { one = h.1; parts = h.0.1.0; whole = h.0.1.1 ∙ i.width }) c.step_at-step.result c.step_at-step.ensures (sym c.if-not-follows.ensures) (h.0.0 ∙ i.width),
    )

pub returns : goal.returns
returns c = linking_end c.loop-item.invariant.2 (λ l. (c.in-None.ensures.steps l).1.0)
