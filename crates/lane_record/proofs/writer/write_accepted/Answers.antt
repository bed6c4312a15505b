use Rattle.std.proofs.Common.{◌≡◌, length, sym, rules, arith}
use Rattle.predicate_answer.specs.Blank.{max_events}
use Rattle.lane_record.specs.Answers.{accepted_given, given_accepted}
use Rattle.lane_record.proofs.DecodeLaws.{steps_fit}
use Rattle.lane_record.proofs.AnswerLaws.{writes_full, writes_done, given_in, passed, written}
use Rattle.lane_record.proofs.writer.write_accepted.Goals as goal

pub returns-then-output-size : goal.returns-then-output-size
returns-then-output-size c =
    let e = c.args.e in
    let es = c.args.list in
    let t = c.args.trace.now in
    let all : length es ≡ max_events = search rules in
    let ok = sym c.if-not-writable.ensures in
    let p = passed e es t all ok in
    writes_full (given_accepted e es t) c.args.output.now (accepted_given e es t) (given_in e es t all ok) (omega (arith, p.long))

pub returns : goal.returns
returns c =
    let e = c.args.e in
    let es = c.args.list in
    let t = c.args.trace.now in
    let out = c.args.output.now in
    let all : length es ≡ max_events = search rules in
    let ok = sym c.if-not-writable.ensures in
    let p = passed e es t all ok in
    writes_done (given_accepted e es t) out (accepted_given e es t) (given_in e es t all ok) p.long (omega (arith, p.long)) (
      p.valid_record,
      (
        (omega arith, (omega arith, (omega arith, (omega arith, (omega arith, (omega arith, (omega arith, tt))))))),
        c.put_events.ensures.1,
        steps_fit 0 _ t (λ i. omega (arith, c.type_inv.trace i)) p.enough,
      ),
    )
    (written e es t all {out = out} p c.if-output-size.false
    (record { headed = c.put_execution.ensures; listed = c.put_events.ensures.0; traced = c.put_steps.ensures }))
