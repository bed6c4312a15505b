use Rattle.std.proofs.Common.{◌∷◌, ℕ, ◌+◌, ◌*◌, ap, ◌∙◌, length, rules, arith}
use Rattle.std.proofs.lemmas.List.Edits.{sets}
use lib.Seq.{length-sets}
use Rattle.little_endian.specs.Pack.{pack}
use Rattle.predicate_trace.specs.Trace.{step_widths, step_values}
use Rattle.lane_record.specs.Format.{step, kind_byte, size}
use Rattle.lane_record.proofs.LoopLaws.{Next, moving_room, moving_step, part_put}
use Rattle.lane_record.proofs.writer.put_steps.Goals as goal

pub loop-k-preserved : goal.loop-k-preserved
loop-k-preserved c =
    let i = c.loop-k.invariant.2 in
    let h = c.in-Some.ensures.steps in
    let before = c.loop-k.k-iterator.iter in
    let after = c.next.new.self.iter in
    let n : Next 0 step_widths before.iter.rest.now c.in-Some.entry.now after.iter.rest.now before.n after.n =
    record { one = h.0.1; parts = h.0.0.1.0; whole = h.0.0.1.1 ∙ i.width } in
    let room = moving_room i n in
    let at = c.args.to + c.in-Some.k * size step in
    let written = kind_byte step ∷ pack step_widths (step_values c.step_at.result) in
    let put = part_put c.loop-k.s c.put_step.new.item at (at + 14) (ap (λ (l : ℕ). at + l) (ap length c.put_step.ensures)) (omega (arith, room, h.1, i.long)) ∙ ap (sets c.loop-k.s at) c.put_step.ensures in (
      search rules,
      search rules,
      moving_step i n c.step_at.result c.step_at.ensures
          (put ∙ ap (λ (k : ℕ). sets c.loop-k.s (c.args.to + k * size step) written) h.1)
          (ap length put ∙ length-sets c.loop-k.s at written) (omega (arith, h.2)) (h.0.0.0 ∙ i.width),
    )
