-- What a call answers and leaves: its record, and every lent byte after it (document 01, Record and Who causes a refusal; over a range, document 02, Three).
use Rattle.std.specs.Prelude.{◌≡◌, List, ℕ, ◌+◌, ◌*◌, ◌≤◌, length, Err, Ok, Result}
use Rattle.std.proofs.Math.Option.{Option, some}
use Rattle.lane_word.specs.declared.InputRange.{InputRange}
use Rattle.lane_word.specs.Range.{input_count}
use Rattle.predicate_answer.specs.declared.CompiledMmioEvent.{CompiledMmioEvent}
use Rattle.predicate_answer.specs.declared.PredicateTransducerExecution.{PredicateTransducerExecution}
use Rattle.predicate_answer.specs.Refusal.{call_number}
use Rattle.predicate_answer.specs.Blank.{no_events}
use Rattle.predicate_semantics.specs.declared.Rv32Program.{Rv32Program}
use Rattle.predicate_semantics.specs.Call.{Call}
use Rattle.predicate_semantics.specs.Outcome.{verdict_on}
use Rattle.predicate_trace.specs.declared.PredicateControlStep.{PredicateControlStep}
use Rattle.lane_memory.specs.LentRows.{cleared}
use Rattle.lane_record.specs.Format.{heading, event, step, size, Record, accepted, encode}
use Rattle.lane_record.specs.Answers.{Said, wrote, done, refuses, write_number, write_answer, write_output}
use Rattle.lane_record.specs.Runs.{record_of}
use Rattle.riscv32imc_predicate.specs.Outcome.{trace_after, call_over}
use Rattle.lane_library.specs.declared.RunError.{RunError}
use Rattle.lane_library.specs.declared.RunError.TheVariants as ran
use Rattle.lane_library.specs.Promise.{Promise}
use Rattle.predicate_answer.specs.declared.CallError.{CallError}

-- Who causes a refusal: an error by its number, the writer's or the call's
abbrev pub ran_number : RunError → ℕ
ran_number (ran.Record e) = write_number e
ran_number (ran.Call e) = call_number e

-- .. and an answer: so many bytes written, or refused with that number
abbrev pub ran_said : Result ℕ RunError → Said
ran_said (Ok n) = wrote n
ran_said (Err e) = refuses (ran_number e)

-- .. as one number, 0 where it refuses nothing
abbrev pub code : Said → ℕ
code done = 0
code (wrote n) = 0
code (refuses k) = k

-- how many bytes it says are written
abbrev pub count : Said → ℕ
count done = 0
count (wrote n) = n
count (refuses k) = 0

-- the longest record with so many entries (LANE_RECORD_BYTES in include/lane.h)
abbrev pub record_bytes : ℕ → ℕ
record_bytes entries = size heading + length no_events * size event + entries * size step

-- no record is longer
abbrev pub RecordFits : Type 0
RecordFits = (c : Call) (x : Record) → record_of c ≡ some x → length (encode x) ≤ record_bytes c.entries

-- document 02, Three: an accepted record carries its range, by the first input and as many lanes as there are inputs
abbrev pub CarriesRange : Type 0
CarriesRange =
    (c : Call) (e : PredicateTransducerExecution) (es : List CompiledMmioEvent) (ss : List PredicateControlStep)
    → record_of c ≡ some (accepted e es ss) → (e.first_input ≡ c.range.first) × (e.lane_count ≡ input_count c.range)

-- the bytes that a caller lends, before a call or after it
pub record LentMemory : Type 0 where
  pub rows : List ℕ
  pub trace : List ℕ
  pub output : List ℕ

-- those three
abbrev pub lent : List ℕ → List ℕ → List ℕ → LentMemory
lent rows trace output = record { rows = rows; trace = trace; output = output }

-- Who causes a refusal: what is answered with so much output, of a refused call its number, else what the writer of the record does
abbrev pub answer_by : Result (Unit {0}) CallError → Option Record → ℕ → Said
answer_by (Ok tt) q n = write_answer q n
answer_by (Err e) q n = refuses (call_number e)

module _ (image : List ℕ) (program : Rv32Program) (range : InputRange) (before : LentMemory) where
  -- the call with what is lent
  abbrev pub called : Call
  called = call_over image program range before.rows before.trace

  -- the one outcome of a call, and every lent byte after it: the record is written or does not fit, nothing is written of a refused call,
  -- and the rows are zero, whatever they held
  pub record Runs (r : Result ℕ RunError) (after : LentMemory) : Type 0 where
    pub answer : ran_said r ≡ answer_by (verdict_on called) (record_of called) (length before.output)
    pub output : after.output ≡ write_output (record_of called) before.output
    pub entries : after.trace ≡ trace_after called before.trace
    pub zero : after.rows ≡ cleared before.rows
    pub promise : Promise image program (ran_said r) after.output
