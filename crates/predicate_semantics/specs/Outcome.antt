-- Record: what a call's run gives the writer of its record.
use Rattle.std.specs.Prelude.{Err, Ok, Result}
use Rattle.predicate_answer.specs.declared.RecordOutcome.{RecordOutcome}
use Rattle.predicate_answer.specs.Refusal.{of_run, of_call, refusal_after}
use Rattle.predicate_answer.specs.Outcome.{accepted_outcome, refused_outcome, no_outcome}
use Rattle.predicate_semantics.specs.State.{RunResult}
use Rattle.predicate_semantics.specs.Tested.{Tested, passed, refused}
use Rattle.predicate_semantics.specs.Lane.{LaneState, execution}
use Rattle.predicate_semantics.specs.Call.{Call, program_in, setup_of, run_of}
use Rattle.predicate_answer.specs.declared.CallError.{CallError}

-- whether the call is refused for what its caller chose: such a run has no record
abbrev pub verdict_in : Tested RunResult → Result (Unit {0}) CallError
verdict_in (passed r) = Ok tt
verdict_in (refused (of_run q)) = Ok tt
verdict_in (refused (of_call e)) = Err e

module _ (c : Call) where
  -- what a run gives that ended in a state with an answer
  abbrev pub outcome_in : LaneState → Tested RunResult → RecordOutcome
  outcome_in s (passed r) = accepted_outcome (execution (program_in c) (setup_of c) s r) r.events
  outcome_in s (refused (of_run q)) = refused_outcome (refusal_after q s.steps)
  outcome_in s (refused (of_call e)) = no_outcome

  -- of the call's run
  abbrev pub verdict_on : Result (Unit {0}) CallError
  verdict_on = verdict_in (run_of c).answer

  abbrev pub outcome_of : RecordOutcome
  outcome_of = outcome_in (run_of c).state (run_of c).answer
