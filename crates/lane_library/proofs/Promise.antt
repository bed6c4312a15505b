-- What a reader has of the bytes that a run wrote is what the scalar run of each input answers that the record carries. Assumes nothing.
use Rattle.std.specs.Prelude.{Err, Ok, Result}
use mathlib.Core.Path.{◌≡◌, refl, sym, ap, ◌∙◌, subst}
use mathlib.Core.Bool.{Bool, true, false, cond}
use mathlib.Core.Option.{Option, none, some, none-ne-some}
use mathlib.Core.List.{List}
use Prim.Native.Nat.{ℕ, ◌+◌, ◌≤◌, ◌<◌, ◌*◌}
use native.Mathlib.Omega.{arith}
use borrow.Author.Tests.{leb-true}
use lib.Dec.{leb}
use lib.ListN.{length, take}
use Rattle.riscv32imc.specs.Constants.{max_steps}
use Rattle.lane_word.specs.Range.{input_count}
use Rattle.predicate_answer.specs.declared.PredicateTransducerExecution.{PredicateTransducerExecution}
use Rattle.predicate_trace.specs.declared.PredicateControlStep.{PredicateControlStep}
use Rattle.predicate_answer.specs.Refusal.{of_run, of_call, refusal_after}
use Rattle.predicate_answer.specs.Outcome.{no_outcome}
use Rattle.predicate_semantics.specs.declared.Rv32Program.{Rv32Program}
use Rattle.predicate_semantics.specs.State.{RunResult, result_read}
use Rattle.predicate_semantics.specs.Tested.{Tested, passed}
use Rattle.predicate_semantics.specs.Lane.{LaneState, Ended, execution}
use Rattle.predicate_semantics.specs.RecordRules.{numbers_over}
use Rattle.predicate_semantics.specs.Standing.{scalar_answer}
use Rattle.predicate_semantics.specs.Call.{Call, program_in, setup_of, run_of}
use Rattle.predicate_answer.specs.declared.CompiledMmioEvent.{CompiledMmioEvent}
use Rattle.predicate_answer.specs.Blank.{no_execution}
use Rattle.predicate_trace.specs.Trace.{entry_bytes}
use Rattle.predicate_semantics.proofs.RecordRules as Rules
use Rattle.predicate_semantics.proofs.TraceFits.{call_completed, call_accepted, read_back}
use Rattle.predicate_semantics.proofs.Guarantee.{guarantee}
use Rattle.predicate_answer.specs.declared.RecordRefusal.{RecordRefusal}
use Rattle.predicate_answer.specs.declared.RecordOutcome.{RecordOutcome}
use Rattle.lane_record.specs.declared.WriteError.{WriteError}
use Rattle.lane_record.specs.Format.{Record, accepted, refused, encode}
use Rattle.lane_record.specs.Decode.{decode_record}
use Rattle.lane_record.specs.Answers.{Said, done, wrote, refuses, write_said, Reads, Writes}
use Rattle.lane_record.specs.Runs.{record_in, record_of}
use Rattle.lane_record.proofs.AnswerLaws.{length_encode}
use Rattle.lane_library.specs.Outcome.{record_bytes, RecordFits, CarriesRange}
use Rattle.lane_library.specs.Promise.{Promise}

-- ---- what is written

fits_by : (n l m : ℕ) (b : Bool) → leb l m ≡ b → wrote n ≡ cond {A = Said} b (wrote l) (refuses 16) → (n ≡ l) × (l ≤ m)
fits_by n l m true e q = ((cc), leb-true l m e)
fits_by n l m false e q = let z : ◌≡◌ {A = ℕ} 0 1 = cc in absurd (omega arith)

module _ (x : Record) (output : List ℕ) (w : Result ℕ WriteError) (output' : List ℕ) (h : Writes (some x) output w output') where
  -- what is written is the whole record, and fits
  pub written : (n : ℕ) → write_said w ≡ wrote n → (n ≡ length (encode x)) × (length (encode x) ≤ length output)
  written n e = fits_by n (length (encode x)) (length output) (leb (length (encode x)) (length output)) refl (sym e ∙ h.answer)

  -- and reads as itself
  pub decodes : (n : ℕ) → write_said w ≡ wrote n → decode_record (take n output') ≡ some x
  decodes n e = let f = written n e in subst (λ (k : ℕ). decode_record (take k output') ≡ some x) (sym f.0) (h.back x refl f.1)

-- ---- what is read of it

-- a refusal is never read as an acceptance
pub never : (f : RecordRefusal) (t : List ℕ) (o : RecordOutcome) (t' : List ℕ) → Reads (some (refused f)) t (Ok o) t'
    → o.answer ≡ Ok tt → ⊥
never f t o t' h a =
    let c : (Ok tt) ≡ Err f = sym a ∙ ap (λ (o : RecordOutcome). o.answer) h.outcome in
    let z : ◌≡◌ {A = ℕ} 0 1 = cc in absurd (omega arith)

-- what is read where the lent trace has room, which `done` says
read_by : {o : RecordOutcome} {t' : List ℕ} (b : Bool) (x : RecordOutcome) (t u : List ℕ) → done ≡ cond {A = Said} b done (refuses 14)
    → o ≡ cond b x no_outcome → t' ≡ cond b u t → (o ≡ x) × (t' ≡ u)
read_by true x t u d p q = (p, q)
read_by false x t u d p q = let z : ◌≡◌ {A = ℕ} 0 1 = cc in absurd (omega arith)

-- a record that a reader took for an acceptance
record ReadAccepted (x : Record) : Type 0 where
  lent : List ℕ
  reading : RecordOutcome
  left : List ℕ
  reads : Reads (some x) lent (Ok reading) left
  answer_is_accepted : reading.answer ≡ Ok tt

-- the numbers of an accepted record
abbrev heading : Option Record → PredicateTransducerExecution
heading none = no_execution
heading (some (accepted e es ss)) = e
heading (some (refused f)) = no_execution

-- the scalar run of each input that an outcome names answers this
abbrev EachInput : List ℕ → Rv32Program → PredicateTransducerExecution → RunResult → Type 0
EachInput image program named result =
    (i : ℕ) → named.first_input ≤ i → i < named.first_input + named.lane_count
    → (others : ℕ → ℕ) → scalar_answer image program i others ≡ some result

-- of an answer that says of nothing that it is written
pub promise_none : (image : List ℕ) (program : Rv32Program) (k : ℕ) (output : List ℕ) → Promise image program (refuses k) output
promise_none image program k output n p t o t' v a i low high others = let z : ◌≡◌ {A = ℕ} 0 1 = cc in absurd (omega arith)

module _ (c : Call) where
  abbrev e : Ended
  e = run_of c

  abbrev s : LaneState
  s = e.state

  module _ (r : RunResult) (q : e.answer ≡ passed r) where
    in_order : c.range.first ≤ c.range.last
    unfolding run_of setup_of
    in_order = Rules.ordered c.range (Rules.chosen (program_in c) (setup_of c) max_steps r q)

    abbrev numbers : PredicateTransducerExecution
    numbers = execution (program_in c) (setup_of c) s r

    -- those of the range
    over_range : numbers ≡ numbers_over c.range s.steps (length s.memory) r
    over_range = Rules.execution_over c s r in_order

  as_lent : (setup_of c).entries ≡ c.entries
  unfolding setup_of
  as_lent = refl

  -- the record is no longer than its entries and the most events make it
  size_by : (a : Tested RunResult) → e.answer ≡ a → (x : Record) → record_in c s a ≡ some x → length (encode x) ≤ record_bytes c.entries
  size_by (passed r) q x h =
      let a = call_accepted c r q in
      let d = call_completed c in
      let same : accepted (numbers r q) r.events r.trace ≡ x = cc h in
      subst (λ (y : Record). length (encode y) ≤ record_bytes c.entries) same
      (omega (arith, length_encode (numbers r q) r.events r.trace, a.events, ap length a.trace, d.counted, d.lent, as_lent))
  size_by (Tested.refused (of_run f)) q x h =
      let same : refused (refusal_after f s.steps) ≡ x = cc h in
      subst (λ (y : Record). length (encode y) ≤ record_bytes c.entries) same (omega arith)
  size_by (Tested.refused (of_call f)) q x h = absurd (none-ne-some x h)

  -- an accepted record's numbers are those of the range
  carries_by : (a : Tested RunResult) → e.answer ≡ a → (x : PredicateTransducerExecution) (es : List CompiledMmioEvent) (ss : List PredicateControlStep)
      → record_in c s a ≡ some (accepted x es ss) → (x.first_input ≡ c.range.first) × (x.lane_count ≡ input_count c.range)
  carries_by (passed r) q x es ss h =
      let same : numbers r q ≡ x = ap heading h in
      (ap (λ (y : PredicateTransducerExecution). y.first_input) (sym same ∙ over_range r q), ap (λ (y : PredicateTransducerExecution). y.lane_count) (sym same ∙ over_range r q))
  carries_by (Tested.refused (of_run f)) q x es ss h = let z : ◌≡◌ {A = ℕ} 0 1 = cc in absurd (omega arith)
  carries_by (Tested.refused (of_call f)) q x es ss h = absurd (none-ne-some _ h)

  answered : (r : RunResult) (q : e.answer ≡ passed r) (h : ReadAccepted (accepted (numbers r q) r.events r.trace))
      → EachInput c.image c.program h.reading.execution (result_read h.reading h.left)
  answered r q h i low high others =
      let o = in_order r q in
      let t = read_by (leb ((numbers r q).symbolic_transitions * entry_bytes) (length h.lent)) _ _ _ h.reads.answer h.reads.outcome h.reads.trace in
      let named : h.reading.execution ≡ numbers_over c.range s.steps (length s.memory) r
      = ap (λ (x : RecordOutcome). x.execution) t.0 ∙ over_range r q in
      let first : h.reading.execution.first_input ≡ c.range.first = ap (λ (x : PredicateTransducerExecution). x.first_input) named in
      let many : h.reading.execution.lane_count ≡ input_count c.range = ap (λ (x : PredicateTransducerExecution). x.lane_count) named in
      guarantee c r q i (omega (arith, low, first)) (omega (arith, high, first, many, o)) others
      ∙ ap (λ (x : RunResult). some x) (sym (rw (t.0, t.1) (read_back c r q h.lent)))

  -- the promise, of what is written of a run
  promise_by : (output : List ℕ) (w : Result ℕ WriteError) (output' : List ℕ) (a : Tested RunResult) → e.answer ≡ a
      → Writes (record_in c s a) output w output' → Promise c.image c.program (write_said w) output'
  promise_by output w output' (passed r) q h n p t o t' v a =
      answered r q (record {
        lent = t;
        reading = o;
        left = t';
        reads = subst (λ (x : Option Record). Reads x t (Ok o) t') (decodes _ output w output' h n p) v;
        answer_is_accepted = a;
      })
  promise_by output w output' (Tested.refused (of_run f)) q h n p t o t' v a =
      absurd (never _ t o t' (subst (λ (x : Option Record). Reads x t (Ok o) t') (decodes _ output w output' h n p) v) a)
  promise_by output w output' (Tested.refused (of_call f)) q h n p t o t' v a = promise_none c.image c.program 15 output' n (sym h.answer ∙ p) t o t' v a

  pub promise_run : (output : List ℕ) (w : Result ℕ WriteError) (output' : List ℕ) → Writes (record_of c) output w output' → Promise c.image c.program (write_said w) output'
  promise_run output w output' h = promise_by output w output' e.answer refl h

pub carries_range : CarriesRange
carries_range c = carries_by c (run_of c).answer refl

pub record_fits : RecordFits
record_fits c = size_by c (run_of c).answer refl
