-- What the code answers of a run that ended, and the run over rows without a mark.
use Rattle.std.specs.Prelude.{List, ◌≡◌, ℕ, ◌*◌, ◌^◌, ◌<◌, length, Err, Ok, Result}
use Rattle.lane_word.specs.declared.InputRange.{InputRange}
use Rattle.lane_word.specs.Word.{lanes}
use Rattle.lane_word.specs.Spare.{lane_inputs}
use Rattle.predicate_answer.specs.declared.RecordOutcome.{RecordOutcome}
use Rattle.predicate_answer.specs.declared.Rv32Error.{Rv32Error}
use Rattle.predicate_answer.specs.declared.CallError.{CallError}
use Rattle.predicate_answer.specs.Refusal.{run_refusal, refusal_of, of_run, of_call, refusal_after}
use Rattle.predicate_answer.specs.Outcome.{accepted_outcome, refused_outcome}
use Rattle.predicate_semantics.specs.declared.Rv32Program.{Rv32Program}
use Rattle.predicate_semantics.specs.State.{RunResult}
use Rattle.predicate_semantics.specs.Tested.{Tested, passed, refused}
use Rattle.predicate_semantics.specs.Lane.{LaneState, Ended, start_tests, finish, lane_run}
use Rattle.predicate_semantics.specs.Call.{range_test}
use Rattle.predicate_semantics.specs.RecordRules.{numbers_over}
use Rattle.predicate_trace.specs.Trace.{entry_count, put_entries}
use Rattle.lane_memory.specs.Rows.{row_count, cleared}
use Rattle.riscv32imc_predicate.specs.declared.Bounds.{Bounds}
use Rattle.riscv32imc_predicate.specs.declared.Place.{Place}
use Rattle.riscv32imc_predicate.specs.declared.Recorded.{Recorded}
use Rattle.riscv32imc_predicate.specs.declared.finish.Finished.{Finished}
use Rattle.riscv32imc_predicate.specs.declared.start.StartError.{StartError}
use Rattle.riscv32imc_predicate.specs.declared.start.StartError.TheVariants as start
use Rattle.riscv32imc_predicate.specs.Setting.{Setting, environment, Serves}
use Rattle.riscv32imc_predicate.specs.Finishing.{Answers}

-- what the tests before any step come to
abbrev pub started_of : Result (Unit {0}) StartError → Tested (Unit {0})
started_of (Ok tt) = passed tt
started_of (Err (start.Run x)) = refused (refusal_of x)
started_of (Err (start.Call e)) = refused (of_call e)

-- .. before a range's run over an image and rows
abbrev pub Starts : List ℕ → Rv32Program → InputRange → List ℕ → Type 0
Starts image program range rows = start_tests (length image) program.symbols (range_test range) (row_count rows) ≡ passed tt

-- a refusal of the run, with the completed steps
abbrev pub refused_run : Rv32Error → ℕ → RecordOutcome
refused_run x n = refused_outcome (refusal_after (run_refusal x) n)

-- what the code answers of a range's run that ended in a state with an answer, by the range in place of the lanes
abbrev pub reported : InputRange → LaneState → Tested RunResult → Result RecordOutcome CallError
reported range s (passed r) = Ok (accepted_outcome (numbers_over range s.steps (length s.memory) r) r.events)
reported range s (refused (of_run q)) = Ok (refused_outcome (refusal_after q s.steps))
reported range s (refused (of_call e)) = Err e

-- a place and a count of events are of a state, and so many operations fit a word
pub record Counts (place : Place) (noted : Recorded) (s : LaneState) : Type 0 where
  pub same_steps : place.steps ≡ s.steps
  pub countable : lanes * s.steps < 2 ^ 32
  pub same_written : place.written ≡ length s.memory
  pub same_count : noted.count ≡ length s.locations

-- the answer at stop, reported for every state there
abbrev pub Answered : InputRange → Place → Recorded → Result Finished Rv32Error → RecordOutcome → Type 0
Answered range place noted finished r =
    (c : Setting) (s : LaneState) → Counts place noted s
    → Answers finished s (finish c.program c.setup s)
    → Ok r ≡ reported range s (finish c.program c.setup s)

-- more steps than any run has
abbrev pub never : ℕ
never = 0xFFFFFFFF

-- a call of the loop that goes on to the run's end, with the whole entries of a trace
abbrev pub whole_run : ℕ → List ℕ → Bounds
whole_run limit trace = record { limit = limit; pause = never; entries = entry_count trace }

-- the whole run of a setting
abbrev pub whole : Setting → Ended
whole c = lane_run c.program c.setup c.limit

-- what the run is called with is a setting's
pub record Calls (c : Setting) (image : List ℕ) (program : Rv32Program) (range : InputRange) (limit : ℕ) (rows trace : List ℕ) : Type 0 where
  pub serves : Serves c (environment image program.symbols (whole_run limit trace))
  pub same_inputs : c.setup.inputs ≡ lane_inputs range
  pub same_choice : c.setup.choice ≡ range_test range
  pub same_rows : c.setup.rows ≡ row_count rows
  pub same_lent : c.lent ≡ trace
  pub countable : lanes * limit < 2 ^ 32

-- the run over rows that hold nothing yet
pub record Reports (c : Setting) (range : InputRange) (r : Result RecordOutcome CallError) (rows rows' trace' : List ℕ) : Type 0 where
  pub said : r ≡ reported range (whole c).state (whole c).answer
  pub entries : trace' ≡ put_entries c.lent 0 (whole c).state.trace
  pub same_rows : cleared rows' ≡ cleared rows
