use Rattle.std.specs.Prelude.{Ok}
use Rattle.std.proofs.Common.{List, ℕ, ap, sym, ◌∙◌, subst}
use Rattle.std.proofs.lemmas.List.Edits.{sets}
use Rattle.predicate_answer.specs.declared.PredicateTransducerExecution.{PredicateTransducerExecution}
use Rattle.predicate_answer.specs.Blank.{no_events}
use Rattle.predicate_trace.specs.Trace.{trace_bytes, steps_at}
use Rattle.lane_record.specs.Format.{heading, size}
use Rattle.lane_record.specs.Decode.{events_at, steps_from, accepted_in}
use Rattle.lane_record.specs.Answers.{Reads}
use Rattle.lane_record.proofs.TestLaws.{yes}
use Rattle.lane_record.proofs.LoopLaws.{rest_is}
use Rattle.lane_record.proofs.AnswerLaws.{reads_done}
use Rattle.lane_record.proofs.reader.read_accepted.Goals as goal

pub returns : goal.returns
returns c =
    let e = c.execution_at-execution.result in
    let bs = c.args.bytes.now in
    let t = c.args.trace.now in
    let w = yes (sym c.if-not-accepted_form.ensures) (sym c.if-not-accepted_valid.ensures) in
    subst (λ (x : PredicateTransducerExecution).
    Reads (accepted_in x bs) t (Ok (record { answer = Ok tt; execution = e; events = c.take_events-events.result })) c.take_steps.new.trace)
    c.execution_at-execution.ensures
    (reads_done e bs w t c.if-trace-steps.false
    (c.take_events-events.ensures ∙ ap (λ (x : List ℕ). sets no_events 0 (events_at e.event_count x)) (rest_is (size heading) bs))
    (c.take_steps.ensures ∙ ap (λ (x : List ℕ). sets t 0 (trace_bytes (steps_at 1 e.symbolic_transitions x))) (rest_is (steps_from e) bs)))
