-- What the run and the writer leave is what a call answers and leaves. Assumes nothing.
use Rattle.std.specs.Prelude.{Err, Ok, Result}
use Rattle.std.specs.Result.{result_and}
use mathlib.Core.Path.{◌≡◌, refl, sym, ap, ◌∙◌, subst}
use mathlib.Core.Option.{Option, none, some}
use mathlib.Core.List.{List}
use Prim.Native.Nat.{ℕ, ◌<◌}
use native.Mathlib.Omega.{arith}
use Rattle.riscv32imc.specs.Constants.{max_steps}
use Rattle.lane_word.specs.declared.InputRange.{InputRange}
use Rattle.lane_word.specs.Word.{lanes}
use Rattle.lane_word.specs.Range.{invalid_channels}
use Rattle.predicate_answer.specs.declared.CallError.{CallError}
use Rattle.predicate_answer.specs.declared.RecordOutcome.{RecordOutcome}
use Rattle.predicate_answer.specs.Refusal.{of_run, of_call, call_number}
use Rattle.predicate_semantics.specs.declared.Rv32Program.{Rv32Program}
use Rattle.predicate_semantics.specs.State.{RunResult}
use Rattle.predicate_semantics.specs.Tested.{Tested, passed, refused}
use Rattle.predicate_semantics.specs.Lane.{LaneState}
use Rattle.predicate_semantics.specs.Call.{Call, range_test, program_in, setup_of, run_of}
use Rattle.predicate_semantics.specs.Outcome.{verdict_in, verdict_on, outcome_of}
use Rattle.predicate_semantics.proofs.RecordRules.{refused_proper}
use Rattle.lane_record.specs.declared.WriteError.{WriteError}
use Rattle.lane_record.specs.Format.{Record}
use Rattle.lane_record.specs.Answers.{write_said, given, Writes}
use Rattle.lane_record.specs.Runs.{record_in, record_of}
use Rattle.lane_record.proofs.Runs.{keeps_rules}
use Rattle.riscv32imc_predicate.specs.Outcome.{Ran}
use Rattle.lane_library.specs.Inputs.{input_program, image_in}
use Rattle.lane_library.specs.Outcome.{ran_said, LentMemory, called, Runs}
use Rattle.lane_library.specs.declared.RunError.{RunError}
use Rattle.lane_library.specs.declared.RunError.TheVariants as ran
use Rattle.lane_library.proofs.Promise.{promise_run, promise_none}

-- an input's call, of the parts that are read from it
pub runs_input : (input : List ℕ) {image : List ℕ} {program : Rv32Program} {range : InputRange} {before : LentMemory} {a : Result ℕ RunError} {after : LentMemory}
    → image ≡ image_in input → program ≡ input_program input → range ≡ invalid_channels
    → Runs image program range before a after → Runs (image_in input) (input_program input) invalid_channels before a after
runs_input input {image} {program} {range} {before} {a} {after} i p r h =
    subst (λ (x : InputRange). Runs (image_in input) (input_program input) x before a after) r
    (subst (λ (x : Rv32Program). Runs (image_in input) x range before a after) p
    (subst (λ (x : List ℕ). Runs x program range before a after) i h))

-- a refused call has no record
no_record : (c : Call) (s : LaneState) (a : Tested RunResult) (e : CallError) → verdict_in a ≡ Err e → record_in c s a ≡ none
no_record c s (passed r) e q = let z : ◌≡◌ {A = ℕ} 0 1 = cc in absurd (omega arith)
no_record c s (refused (of_run f)) e q = let z : ◌≡◌ {A = ℕ} 0 1 = cc in absurd (omega arith)
no_record c s (refused (of_call f)) e q = refl

-- what a verdict is where the run answers an error, or an outcome
refused_by : (v : Result (Unit {0}) CallError) (o : RecordOutcome) (e : CallError) → Err e ≡ result_and v (Ok o) → v ≡ Err e
refused_by (Ok tt) o e q = let z : ◌≡◌ {A = ℕ} 0 1 = cc in absurd (omega arith)
refused_by (Err x) o e q = cc

answered_by : (v : Result (Unit {0}) CallError) (o p : RecordOutcome) → Ok p ≡ result_and v (Ok o) → (v ≡ Ok tt) × (p ≡ o)
answered_by (Ok tt) o p q = (refl, cc)
answered_by (Err x) o p q = let z : ◌≡◌ {A = ℕ} 0 1 = cc in absurd (omega arith)

module _ {image : List ℕ} {program : Rv32Program} {range : InputRange} (before after : LentMemory) where
  -- nothing is written of a refused call
  pub runs_refused : {e : CallError} → Ran image program range before.rows before.trace (Err e) after.rows after.trace
      → after.output ≡ before.output → Runs image program range before (Err (ran.Call e)) after
  runs_refused {e} r same =
      let c = called image program range before in
      let v = refused_by (verdict_on c) (outcome_of c) e r.answer in
      record {
        answer = rw v;
        output = rw (no_record c (run_of c).state (run_of c).answer e v) same;
        entries = r.entries;
        zero = r.zero;
        promise = promise_none image program (call_number e) after.output;
      }

  module _ {o : RecordOutcome} (r : Ran image program range before.rows before.trace (Ok o) after.rows after.trace) where
    -- what the writer is given of a run is its record
    given_run : range.last < lanes → given o after.trace ≡ record_of (called image program range before)
    given_run byte =
        let c = called image program range before in
        ap (λ (p : RecordOutcome). given p after.trace) (answered_by (verdict_on c) (outcome_of c) o r.answer).1
        ∙ ap (λ (t : List ℕ). given (outcome_of c) t) r.entries
        ∙ keeps_rules c byte before.trace

    -- whatever says of it what the writer says
    recorded_so : range.last < lanes → {w : Result ℕ WriteError} → Writes (given o after.trace) before.output w after.output
        → (a : Result ℕ RunError) → ran_said a ≡ write_said w → Runs image program range before a after
    recorded_so byte {w} h a said =
        let c = called image program range before in
        let v = (answered_by (verdict_on c) (outcome_of c) o r.answer).0 in
        let writes = subst (λ (q : Option Record). Writes q before.output w after.output) (given_run byte) h in
        record {
          answer = rw v (said ∙ writes.answer);
          output = writes.output;
          entries = r.entries;
          zero = r.zero;
          promise = rw said (promise_run c before.output w after.output writes);
        }

    pub runs_written : {n : ℕ} → range.last < lanes → Writes (given o after.trace) before.output (Ok n) after.output
        → Runs image program range before (Ok n) after
    runs_written {n} byte h = recorded_so byte h (Ok n) refl

    pub runs_unwritten : {e : WriteError} → range.last < lanes → Writes (given o after.trace) before.output (Err e) after.output
        → Runs image program range before (Err (ran.Record e)) after
    runs_unwritten {e} byte h = recorded_so byte h (Err (ran.Record e)) refl

taken_not : (e : CallError) → ◌≡◌ {A = Result (Unit {0}) CallError} (Ok tt) (Err e) → ⊥
taken_not e q = let z : ◌≡◌ {A = ℕ} 0 1 = cc in absurd (omega arith)

-- a call whose range is in order has a record
recorded_by : (c : Call) → range_test c.range ≡ Ok tt → (a : Tested RunResult) → (run_of c).answer ≡ a
    → (verdict_in a ≡ Ok tt) × (x : Record) × (record_in c (run_of c).state a ≡ some x)
unfolding run_of setup_of
recorded_by c o (passed r) q = (refl, _, refl)
recorded_by c o (refused (of_run f)) q = (refl, _, refl)
recorded_by c o (refused (of_call x)) q = absurd (taken_not x (sym o ∙ refused_proper (program_in c) (setup_of c) max_steps (of_call x) q))

pub always_recorded : (c : Call) → range_test c.range ≡ Ok tt → (verdict_on c ≡ Ok tt) × (x : Record) × (record_of c ≡ some x)
always_recorded c o = recorded_by c o (run_of c).answer refl
