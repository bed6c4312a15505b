-- What the writer and the reader answer and leave, for every input and every lent byte (Record; Who causes a refusal).
use Rattle.std.specs.Prelude.{◌≡◌, true, cond, ◌&&◌, List, ℕ, ◌*◌, ◌≤◌, leb, length, take, Err, Ok, Result, IfOk}
use Rattle.std.proofs.Math.Option.{Option, none, some}
use Rattle.little_endian.specs.Lent.{over}
use Rattle.predicate_answer.specs.declared.CompiledMmioEvent.{CompiledMmioEvent}
use Rattle.predicate_answer.specs.declared.PredicateTransducerExecution.{PredicateTransducerExecution}
use Rattle.predicate_answer.specs.Outcome.{accepted_outcome, refused_outcome, no_outcome}
use Rattle.predicate_trace.specs.Trace.{entry_bytes, trace_bytes, steps_at}
use Rattle.predicate_answer.specs.declared.RecordRefusal.{RecordRefusal}
use Rattle.predicate_answer.specs.declared.RecordOutcome.{RecordOutcome}
use Rattle.lane_record.specs.declared.ReadError.{ReadError}
use Rattle.lane_record.specs.declared.ReadError.TheVariants as read
use Rattle.lane_record.specs.declared.WriteError.{WriteError}
use Rattle.lane_record.specs.declared.WriteError.TheVariants as write
use Rattle.lane_record.specs.Format.{Record, accepted, refused, encode, FitsRecord}
use Rattle.lane_record.specs.Rules.{valid}
use Rattle.lane_record.specs.Decode.{ruled, decode_record}

-- an answer by its number: done, so many bytes written, or refused with a number
pub data Said : Type 0 where
  done : Said
  wrote : ℕ → Said
  refuses : ℕ → Said

-- the errors by their numbers
abbrev pub read_number : ReadError → ℕ
read_number read.RulesBroken = 15
read_number read.TraceTooShort = 14

abbrev pub write_number : WriteError → ℕ
write_number write.RulesBroken = 15
write_number write.OutputTooShort = 16

-- what the reader says, and what the writer says
abbrev pub read_said : Result RecordOutcome ReadError → Said
read_said (Ok o) = done
read_said (Err e) = refuses (read_number e)

abbrev pub write_said : Result ℕ WriteError → Said
write_said (Ok n) = wrote n
write_said (Err e) = refuses (write_number e)

-- ---- reading

-- 15 where the bytes are no record, then 14 where a trace of n bytes has no entry for some step
abbrev pub read_answer : Option Record → ℕ → Said
read_answer none n = refuses 15
read_answer (some (refused f)) n = done
read_answer (some (accepted e es ss)) n = cond (leb (e.symbolic_transitions * entry_bytes) n) done (refuses 14)

-- the heading and the events, with zeros up to the most events
abbrev pub read_outcome : Option Record → ℕ → RecordOutcome
read_outcome none n = no_outcome
read_outcome (some (refused f)) n = refused_outcome f
read_outcome (some (accepted e es ss)) n = cond (leb (e.symbolic_transitions * entry_bytes) n) (accepted_outcome e es) no_outcome

-- the trace begins with the steps and is else as it was; after 15 and 14 it is whole as it was
abbrev pub read_trace : Option Record → List ℕ → List ℕ
read_trace none t = t
read_trace (some (refused f)) t = t
read_trace (some (accepted e es ss)) t = cond (leb (e.symbolic_transitions * entry_bytes) (length t)) (over (trace_bytes ss) t) t

pub record Reads (q : Option Record) (t : List ℕ) (r : Result RecordOutcome ReadError) (t' : List ℕ) : Type 0 where
  pub answer : read_said r ≡ read_answer q (length t)
  pub outcome : IfOk r (λ o. o ≡ read_outcome q (length t))
  pub trace : t' ≡ read_trace q t

-- the reader takes bytes exactly where they are those of a record that keeps the rules
pub record Exact (bs : List ℕ) : Type 0 where
  pub only_records : (x : Record) → decode_record bs ≡ some x → (encode x ≡ bs) × (valid x ≡ true) × FitsRecord x
  pub every_record : (x : Record) → encode x ≡ bs → valid x ≡ true → FitsRecord x → decode_record bs ≡ some x

-- ---- writing

-- the record of an accepted result: its first events, and the first entries of its trace
abbrev pub accepted_given : PredicateTransducerExecution → List CompiledMmioEvent → List ℕ → Record
accepted_given e es t = accepted e (take e.event_count es) (steps_at 0 e.symbolic_transitions t)

-- that a trace has an entry for each step is one of the rules
abbrev pub given_accepted : PredicateTransducerExecution → List CompiledMmioEvent → List ℕ → Option Record
given_accepted e es t =
    ruled (leb (e.symbolic_transitions * entry_bytes) (length t) && valid (accepted_given e es t)) (accepted_given e es t)

abbrev pub given_refused : RecordRefusal → Option Record
given_refused f = ruled (valid (refused f)) (refused f)

abbrev pub given_by : Result (Unit {0}) RecordRefusal → PredicateTransducerExecution → List CompiledMmioEvent → List ℕ → Option Record
given_by (Ok tt) e es t = given_accepted e es t
given_by (Err f) e es t = given_refused f

-- the record that a result and a trace stand for, if they keep the rules
abbrev pub given : RecordOutcome → List ℕ → Option Record
given o t = given_by o.answer o.execution o.events t

-- 15, then 16; else how many bytes are written
abbrev pub write_answer : Option Record → ℕ → Said
write_answer none n = refuses 15
write_answer (some x) n = cond (leb (length (encode x)) n) (wrote (length (encode x))) (refuses 16)

-- the output begins with the record and is else as it was; after 15 and 16 it is whole as it was
abbrev pub write_output : Option Record → List ℕ → List ℕ
write_output none out = out
write_output (some x) out = cond (leb (length (encode x)) (length out)) (over (encode x) out) out

pub record Writes (q : Option Record) (out : List ℕ) (r : Result ℕ WriteError) (out' : List ℕ) : Type 0 where
  pub answer : write_said r ≡ write_answer q (length out)
  pub output : out' ≡ write_output q out
  -- what was written reads back as itself
  pub back : (x : Record) → q ≡ some x → length (encode x) ≤ length out → decode_record (take (length (encode x)) out') ≡ some x
