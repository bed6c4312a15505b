use Rattle.std.proofs.Common.{ℕ, ◌*◌, ap, ◌∙◌, rules, arith}
use Rattle.std.proofs.lemmas.List.Edits.{sets}
use Rattle.little_endian.specs.Pack.{pack}
use Rattle.predicate_trace.specs.Trace.{entry_bytes, step_widths, step_values}
use Rattle.predicate_trace.proofs.TraceLaws.{entry_inside}
use Rattle.lane_record.proofs.LoopLaws.{Next, moving_room, moving_step}
use Rattle.lane_record.proofs.reader.take_steps.Goals as goal

pub loop-k-preserved : goal.loop-k-preserved
loop-k-preserved c =
    let i = c.loop-k.invariant.2 in
    let h = c.in-Some.ensures.steps in
    let before = c.loop-k.k-iterator.iter in
    let after = c.next.new.self.iter in
    let n : Next 1 step_widths before.iter.rest.now c.in-Some.item.now after.iter.rest.now before.n after.n =
    record { one = h.0.1; parts = h.0.0.1.0; whole = h.0.0.1.1 ∙ i.width } in
    let room = moving_room i n in (
      search rules,
      search rules,
      moving_step i n c.step_at.result c.step_at.ensures
          (c.put_entry.ensures
          ∙ entry_inside _ _ _ (omega (arith, room, h.1, i.long))
          ∙ ap (λ (k : ℕ). sets c.loop-k.trace (k * entry_bytes) (pack step_widths (step_values c.step_at.result))) h.1)
          c.put_entry.auto.s (omega (arith, h.2)) (h.0.0.0 ∙ i.width),
    )
