-- The run over a range as one use of the run over a setting, and its whole outcome: the result read off the code's own outputs, and the promise over it. Assumes nothing.
use Rattle.std.specs.Prelude.{Err, Ok, Result}
use Rattle.std.specs.Result.{result_and}
use mathlib.Core.Path.{◌≡◌, refl, sym, ap, ◌∙◌, subst}
use mathlib.Core.List.{List, []}
use mathlib.Core.Option.{some}
use Prim.Native.Nat.{ℕ, ◌≤◌, ◌<◌}
use native.Mathlib.Omega.{arith}
use lib.ListN.{length}
use Rattle.little_endian.specs.Lent.{over}
use Rattle.riscv32imc.specs.Constants.{max_steps}
use Rattle.lane_word.specs.declared.InputRange.{InputRange}
use Rattle.lane_word.specs.Word.{lanes}
use Rattle.lane_word.proofs.SpareLaws.{length_lanes}
use Rattle.predicate_answer.specs.declared.PredicateTransducerExecution.{PredicateTransducerExecution}
use Rattle.predicate_trace.specs.declared.PredicateControlStep.{PredicateControlStep}
use Rattle.predicate_answer.specs.Refusal.{of_run, of_call}
use Rattle.predicate_answer.specs.Outcome.{accepted_outcome}
use Rattle.predicate_semantics.specs.declared.Rv32Program.{Rv32Program}
use Rattle.predicate_semantics.specs.State.{RunResult, result_read}
use Rattle.predicate_semantics.specs.Tested.{Tested, passed, refused}
use Rattle.predicate_semantics.specs.Lane.{LaneState, Ended}
use Rattle.predicate_semantics.specs.Standing.{standing_core, program_of, scalar_answer}
use Rattle.predicate_semantics.specs.Call.{Call, program_in, setup_of, run_of}
use Rattle.predicate_semantics.specs.Outcome.{verdict_in, verdict_on, outcome_in, outcome_of}
use Rattle.predicate_semantics.proofs.Guarantee.{guarantee}
use Rattle.predicate_semantics.proofs.RecordRules as Rules
use Rattle.predicate_semantics.proofs.Repeated.{SameRun}
use Rattle.predicate_semantics.proofs.SpareLanes.{lane_setup, spare_run}
use Rattle.predicate_semantics.proofs.Sources.{standing_names}
use Rattle.predicate_semantics.proofs.TraceFits.{call_completed, call_accepted, read_back}
use Rattle.predicate_trace.specs.Trace.{trace_bytes, put_entries}
use Rattle.predicate_trace.proofs.TraceLaws.{entries_over}
use Rattle.lane_memory.specs.Rows.{row_count, cleared, unmarked}
use Rattle.lane_memory.specs.Holds.{Holds}
use Rattle.lane_memory.proofs.Laws.{unmarked_holds, cleared_unmarked}
use Rattle.predicate_answer.specs.declared.CallError.{CallError}
use Rattle.predicate_answer.specs.declared.RecordOutcome.{RecordOutcome}
use Rattle.riscv32imc_predicate.specs.Setting.{Setting}
use Rattle.riscv32imc_predicate.specs.Outcome.{trace_after, call_over, Ran}
use Rattle.riscv32imc_predicate.specs.Reporting.{reported, whole, Calls, Reports}
use Rattle.riscv32imc_predicate.proofs.Coming.{own_in_force}
use Rattle.predicate_answer.specs.declared.RecordRefusal.{RecordRefusal}

-- rows without a mark hold nothing
pub holds_none : (rows rows₁ : List ℕ) → rows₁ ≡ unmarked rows → Holds rows₁ (row_count rows₁) []
holds_none rows rows₁ c = rw c (subst (λ (k : ℕ). Holds (unmarked rows) k []) (sym (unmarked_holds rows).rows) (unmarked_holds rows))

-- states alike in steps and written bytes give the same answer
reported_alike : (range : InputRange) (s t : LaneState) → s.steps ≡ t.steps → length s.memory ≡ length t.memory
    → (a : Tested RunResult) → reported range s a ≡ reported range t a
reported_alike range s t e f (passed r) = rw (e, f)
reported_alike range s t e f (refused (of_run q)) = rw e
reported_alike range s t e f (refused (of_call x)) = refl

-- a refusal is not accepted
abbrev IsAccepted : Result (Unit {0}) RecordRefusal → Type 0
IsAccepted (Ok tt) = Unit {0}
IsAccepted (Err f) = ⊥

module _ (image : List ℕ) (program : Rv32Program) (range : InputRange) (rows trace : List ℕ) where
  abbrev c : Call
  c = call_over image program range rows trace

  abbrev e : Ended
  e = run_of c

  -- the run in all of a word's lanes
  abbrev setting : Setting
  setting = record { program = program_in c; setup = lane_setup c; limit = max_steps; lent = trace }

  -- it is what the code calls the run with
  pub calls : range.last < lanes → {rows₁ : List ℕ} → rows₁ ≡ unmarked rows → Calls setting image program range max_steps rows₁ trace
  unfolding program_of standing_core lane_setup
  calls byte u = record {
    serves = record {
      same_image = refl;
      same_symbols = refl;
      same_limit = refl;
      small_limit = omega arith;
      same_entries = refl;
      same_lanes = length_lanes range byte;
      in_force = own_in_force;
      names = standing_names;
      least_registers = omega arith;
      most_registers = omega arith;
    };
    same_inputs = refl;
    same_choice = refl;
    same_rows = sym (ap row_count u ∙ (unmarked_holds rows).rows);
    same_lent = refl;
    countable = omega arith;
  }

  -- the trace that a run leaves, as bytes over those that were lent
  trace_over : put_entries trace 0 e.state.trace ≡ trace_after c trace
  unfolding setup_of
  trace_over = let d = call_completed c in entries_over trace e.state.trace (omega (arith, d.counted, d.lent))

  -- the numbers by the range are those of the lanes
  same_answer : (t : Tested RunResult) → e.answer ≡ t → reported range e.state t ≡ result_and (verdict_in t) (Ok (outcome_in c e.state t))
  unfolding run_of setup_of
  same_answer (passed r) q =
      ap (λ (x : PredicateTransducerExecution). Ok (accepted_outcome x r.events))
      (sym (Rules.execution_over c e.state r (Rules.ordered range (Rules.chosen (program_in c) (setup_of c) max_steps r q))))
  same_answer (refused (of_run q)) h = refl
  same_answer (refused (of_call x)) h = refl

  -- where the outcome is accepted, each input's scalar run answers it
  promised : (t : Tested RunResult) → e.answer ≡ t → (outcome_in c e.state t).answer ≡ Ok tt
      → (input : ℕ) → range.first ≤ input → input ≤ range.last
      → (others : ℕ → ℕ) → scalar_answer image program input others ≡ some (result_read (outcome_in c e.state t) (trace_after c trace))
  promised (passed r) q a input low high others =
      guarantee c r q input low high others ∙ ap some (sym (subst (λ (ss : List PredicateControlStep). result_read (outcome_in c e.state (passed r)) (over (trace_bytes ss) trace) ≡ r) (sym (call_accepted c r q).trace) (read_back c r q trace)))
  promised (refused (of_run x)) q a input low high others = absurd (subst IsAccepted (sym a) tt)
  promised (refused (of_call x)) q a input low high others = absurd (subst IsAccepted (sym a) tt)

  -- .. of an outcome that the run answers
  promised_of : (outcome : RecordOutcome) (t : Tested RunResult) → e.answer ≡ t → result_and (verdict_in t) (Ok (outcome_in c e.state t)) ≡ Ok outcome → outcome.answer ≡ Ok tt
      → (input : ℕ) → range.first ≤ input → input ≤ range.last
      → (others : ℕ → ℕ) → scalar_answer image program input others ≡ some (result_read outcome (trace_after c trace))
  promised_of outcome (passed r) q h = let z : outcome_in c e.state (passed r) ≡ outcome = cc in rw (← z) (promised (passed r) q)
  promised_of outcome (refused (of_run x)) q h = let z : outcome_in c e.state (refused (of_run x)) ≡ outcome = cc in rw (← z) (promised (refused (of_run x)) q)
  promised_of outcome (refused (of_call x)) q h = absurd (cc)

  module _ {r : Result RecordOutcome CallError} {rows₁ rows₂ trace' : List ℕ} (u : rows₁ ≡ unmarked rows) (s : Reports setting range r rows₁ rows₂ trace') where
    -- lanes that repeat another's are not seen
    same_run : SameRun e (whole setting)
    unfolding run_of
    same_run = spare_run (program_in c) c max_steps

    answer : r ≡ result_and (verdict_on c) (Ok (outcome_of c))
    answer =
        s.said ∙ reported_alike range (whole setting).state e.state (sym same_run.steps) (sym same_run.written) (whole setting).answer
        ∙ ap (reported range e.state) (sym same_run.answer) ∙ same_answer e.answer refl

    entries : trace' ≡ trace_after c trace
    entries = s.entries ∙ ap (put_entries trace 0) (sym same_run.trace) ∙ trace_over

    pub ran : {rows₃ : List ℕ} → rows₃ ≡ cleared rows₂ → Ran image program range rows trace r rows₃ trace'
    ran z = record {
      answer = answer;
      entries = entries;
      zero = z ∙ s.same_rows ∙ ap cleared u ∙ cleared_unmarked rows;
      guarantee = λ outcome h. rw entries (promised_of outcome e.answer refl (sym answer ∙ h));
    }
