use Rattle.std.proofs.Common.{Bool, refl, ap, sym, ◌∙◌, arith}
use Rattle.little_endian.proofs.SetLaws.{sets_over}
use Rattle.lane_record.specs.Format.{refused, encode}
use Rattle.lane_record.specs.Decode.{ruled}
use Rattle.lane_record.specs.Answers.{given_refused}
use Rattle.lane_record.proofs.AnswerLaws.{writes_done}
use Rattle.lane_record.proofs.writer.write_refused.Goals as goal

pub returns : goal.returns
returns c =
    let ok = sym c.if-not-refusal_valid.ensures in
    writes_done (given_refused c.args.f) c.args.output.now (refused c.args.f) (ap (λ (w : Bool). ruled w (refused c.args.f)) ok) refl
    c.if-output-lt-REFUSAL_BYTES.false (ok, (omega arith, (omega arith, (omega arith, tt))))
    (c.put_refusal.ensures ∙ sets_over (encode (refused c.args.f)) c.args.output.now c.if-output-lt-REFUSAL_BYTES.false)
