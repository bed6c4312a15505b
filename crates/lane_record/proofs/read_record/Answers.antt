use Rattle.std.proofs.Common.{sym, ◌∙◌, arith}
use Rattle.little_endian.proofs.NumberLaws.{value_one}
use Rattle.lane_record.proofs.AnswerLaws.{decode_refused, decode_accepted, exact}
use Rattle.lane_record.proofs.read_record.Goals as goal

pub returns-then-get-eq-REFUSAL : goal.returns-then-get-eq-REFUSAL
returns-then-get-eq-REFUSAL c =
    let bs = c.args.bytes.now in (
      rw (decode_refused bs (sym (value_one bs 0) ∙ sym c.get.ensures ∙ c.if-get-eq-REFUSAL.true)) (c.read_refused.ensures c.args.trace.now),
      exact bs (λ i. omega (arith, c.type_inv.bytes i)),
    )

pub returns : goal.returns
returns c =
    let bs = c.args.bytes.now in (
      rw (decode_accepted bs (λ e. c.if-get-eq-REFUSAL.false (c.get.ensures ∙ value_one bs 0 ∙ e))) c.read_accepted.ensures,
      exact bs (λ i. omega (arith, c.type_inv.bytes i)),
    )
