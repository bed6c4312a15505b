-- The record of a call's run: what the run gives the writer keeps the record's rules.
use Rattle.std.specs.Prelude.{◌≡◌, List, ℕ, ◌<◌}
use Rattle.std.proofs.Math.Option.{Option, none, some}
use Rattle.little_endian.specs.Lent.{over}
use Rattle.lane_word.specs.Word.{lanes}
use Rattle.predicate_answer.specs.Refusal.{of_run, of_call, refusal_after}
use Rattle.predicate_semantics.specs.State.{RunResult}
use Rattle.predicate_semantics.specs.Tested.{Tested, passed}
use Rattle.predicate_semantics.specs.Lane.{LaneState, execution}
use Rattle.predicate_semantics.specs.Call.{Call, program_in, setup_of, run_of}
use Rattle.predicate_semantics.specs.Outcome.{outcome_of}
use Rattle.predicate_trace.specs.Trace.{trace_bytes}
use Rattle.lane_record.specs.Format.{Record, accepted, refused}
use Rattle.lane_record.specs.Answers.{given}

module _ (c : Call) where
  -- the record of a run that ended in a state with an answer; none where the call is refused for what its caller chose
  abbrev pub record_in : LaneState → Tested RunResult → Option Record
  record_in s (passed r) = some (accepted (execution (program_in c) (setup_of c) s r) r.events r.trace)
  record_in s (Tested.refused (of_run q)) = some (refused (refusal_after q s.steps))
  record_in s (Tested.refused (of_call e)) = none

  -- of the call's run
  abbrev pub record_of : Option Record
  record_of = record_in (run_of c).state (run_of c).answer

  -- what a run over bytes gives the writer, with the trace that it leaves, is its record: of a run that has one the writer never answers 15
  abbrev pub KeepsRules : Type 0
  KeepsRules = c.range.last < lanes → (t : List ℕ) → given (outcome_of c) (over (trace_bytes (run_of c).state.trace) t) ≡ record_of
