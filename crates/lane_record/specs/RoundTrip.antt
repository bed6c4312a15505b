-- The record both ways (Record), stated of what the writer and the reader answer and leave.
use Rattle.std.specs.Prelude.{◌≡◌, List, [], map, ℕ, ◌*◌, ◌≤◌, length, take, Err, Ok, Result}
use Rattle.little_endian.specs.Number.{AllBytes}
use Rattle.little_endian.specs.Pack.{Fits, AllFit}
use Rattle.little_endian.specs.Lent.{over}
use Rattle.predicate_answer.specs.declared.CompiledMmioEvent.{CompiledMmioEvent}
use Rattle.predicate_answer.specs.declared.PredicateTransducerExecution.{PredicateTransducerExecution}
use Rattle.predicate_answer.specs.declared.RecordOutcome.{RecordOutcome}
use Rattle.predicate_trace.specs.Trace.{entry_bytes}
use Rattle.lane_record.specs.Format.{heading, event, refusal, widths, execution_values, event_values, refusal_values}
use Rattle.lane_record.specs.Decode.{decode_record}
use Rattle.lane_record.specs.Answers.{done, wrote, read_answer, read_outcome, read_trace, given, write_answer, write_output}
use Rattle.predicate_answer.specs.Outcome.{refused_outcome, accepted_outcome}
use Rattle.predicate_answer.specs.declared.RecordRefusal.{RecordRefusal}

-- what counts of an outcome: the first `event_count` events; after a refusal the answer alone
abbrev pub what_counts_by : Result (Unit {0}) RecordRefusal → PredicateTransducerExecution → List CompiledMmioEvent → RecordOutcome
what_counts_by (Ok tt) e es = accepted_outcome e (take e.event_count es)
what_counts_by (Err f) e es = refused_outcome f

abbrev pub what_counts : RecordOutcome → RecordOutcome
what_counts o = what_counts_by o.answer o.execution o.events

-- what counts of the trace beside it: an entry for each step; after a refusal none
abbrev pub entries_by : Result (Unit {0}) RecordRefusal → PredicateTransducerExecution → List ℕ → List ℕ
entries_by (Ok tt) e t = take (e.symbolic_transitions * entry_bytes) t
entries_by (Err f) e t = []

abbrev pub entries : RecordOutcome → List ℕ → List ℕ
entries o t = entries_by o.answer o.execution t

-- every number that counts of an outcome fits its place; the types of the code see to that
abbrev pub FitsBy : Result (Unit {0}) RecordRefusal → PredicateTransducerExecution → List CompiledMmioEvent → Type 0
FitsBy (Ok tt) e es =
    Fits (widths heading) (execution_values e) × AllFit (widths event) (map event_values (take e.event_count es))
FitsBy (Err f) e es = Fits (widths refusal) (refusal_values f)

abbrev pub FitsOutcome : RecordOutcome → Type 0
FitsOutcome o = FitsBy o.answer o.execution o.events

-- A written record reads back as itself: of the n bytes that the writer wrote, for an accepted or a refused outcome, the reader gives
-- that outcome, and in any trace with room for them the entries that the writer was given.
abbrev pub ReadBack : Type 0
ReadBack =
    (o : RecordOutcome) (t out : List ℕ) → FitsOutcome o → AllBytes t
    → (n : ℕ) → write_answer (given o t) (length out) ≡ wrote n
    → (t2 : List ℕ) → length (entries o t) ≤ length t2
    → let bytes = take n (write_output (given o t) out) in
    (read_answer (decode_record bytes) (length t2) ≡ done)
    × (read_outcome (decode_record bytes) (length t2) ≡ what_counts o)
    × (read_trace (decode_record bytes) t2 ≡ over (entries o t) t2)

-- A record is rewritten byte for byte: whatever bytes the reader takes, an accepted or a refused run's, the writer makes again of what
-- the reader gave and left in the trace, in any output with room for them; the output past them is untouched.
abbrev pub Rewritten : Type 0
Rewritten =
    (bytes t : List ℕ) → AllBytes bytes → read_answer (decode_record bytes) (length t) ≡ done
    → (out : List ℕ) → length bytes ≤ length out
    → let again = given (read_outcome (decode_record bytes) (length t)) (read_trace (decode_record bytes) t) in
    (write_answer again (length out) ≡ wrote (length bytes)) × (write_output again out ≡ over bytes out)
