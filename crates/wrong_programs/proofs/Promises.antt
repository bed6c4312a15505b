-- Each contract's promise, and that the wrong programs break it.
use Rattle.std.specs.Prelude.{Err, Ok, Result}
use mathlib.Core.Path.{◌≡◌, refl, sym, ap, ◌∙◌}
use mathlib.Core.Bool.{true}
use mathlib.Core.Option.{Option, some}
use mathlib.Core.List.{List}
use Prim.Native.Nat.{ℕ, ◌+◌, ◌*◌, ◌≤◌, ◌<◌}
use native.Mathlib.Omega.{arith}
use borrow.Author.Tests.{le-leb, leb-true}
use lib.Dec.{eqb, leb}
use lib.ListN.{length, take, drop, replicate, length-replicate}
use lib.Seq.{take-append_seam}
use Rattle.little_endian.specs.Lent.{over}
use Rattle.little_endian.proofs.NumberLaws.{below_take}
use Rattle.riscv32imc.specs.Constants.{max_steps}
use Rattle.lane_word.specs.declared.InputRange.{InputRange}
use Rattle.lane_word.specs.Range.{invalid_channels, input_count}
use Rattle.predicate_trace.specs.declared.PredicateControlStep.{PredicateControlStep}
use Rattle.predicate_trace.specs.Trace.{entry_bytes, steps_at, trace_bytes}
use Rattle.predicate_trace.proofs.TraceLaws.{trace_back}
use Rattle.predicate_answer.specs.declared.CompiledMmioEvent.{CompiledMmioEvent}
use Rattle.predicate_answer.specs.declared.PredicateTransducerExecution.{PredicateTransducerExecution}
use Rattle.predicate_answer.specs.Blank.{max_events, no_events}
use Rattle.predicate_answer.specs.Outcome.{accepted_outcome}
use Rattle.predicate_semantics.specs.State.{RunResult, result_read}
use Rattle.predicate_semantics.specs.Standing.{scalar_answer}
use Rattle.lane_record.specs.Format.{Record, accepted, FitsRecord}
use Rattle.lane_record.specs.Rules.{within, min_written_bytes, max_written_bytes, fewest_steps, execution_valid, valid}
use Rattle.lane_record.specs.Decode.{decode_record}
use Rattle.lane_record.specs.Answers.{Said, done, wrote, refuses}
use Rattle.lane_record.proofs.TestLaws.{both}
use Rattle.lane_record.proofs.DecodeLaws.{rules, decode_same}
use Rattle.lane_library.specs.Outcome.{ran_said}
use Rattle.wrong_programs.specs.Inputs.{Input, twelve_channels}
use Rattle.wrong_programs.specs.Behaviours.{is_accepted, numbers, events, steps, NamesRange}
use Rattle.wrong_programs.specs.Refuted.{PromiseRefuted, RunOutput, record_by, record_seen, seen_of_run, RunPromises, RunPromiseRefuted, LibraryOutput, written, seen_of, BytesPromise, BytesRefuted, LibraryRefuted}
use Rattle.wrong_programs.proofs.Right.{library_right, library_never}
use Rattle.wrong_programs.proofs.Table.{Computed, at_invalid, at_twelve, refuted_over_ranges}
use Rattle.wrong_programs.proofs.Promise.{result_of, Accepted, promise_refuted}
use Rattle.predicate_answer.specs.declared.CallError.{CallError}
use Rattle.predicate_answer.specs.declared.RecordOutcome.{RecordOutcome}
use Rattle.predicate_answer.specs.declared.RecordRefusal.{RecordRefusal}

-- ---- the run

-- what is seen to be accepted is answered so, and the record's numbers are the answer's
accepted_by : (s : Result (Unit {0}) RecordRefusal) (e : PredicateTransducerExecution) (es : List CompiledMmioEvent) (t : List ℕ) (a : Accepted (some (record_by s e es t)))
    → (s ≡ Ok tt) × (result_of e (take e.event_count es) (steps_at 0 e.symbolic_transitions t) ≡ result_of a.numbers a.events a.steps)
accepted_by (Ok tt) e es t a = (refl, rw (sym (ap numbers a.is), sym (ap events a.is), sym (ap steps a.is)) refl)
accepted_by (Err f) e es t a = let z : ◌≡◌ {A = ℕ} 0 1 = cc a.is in absurd (omega arith)

run_told : (x : Input) (o : RunOutput) → RunPromises x o → (a : Accepted (seen_of_run o).recorded) → (i : ℕ) → x.range.first ≤ i → i ≤ x.range.last
    → (others : ℕ → ℕ) → scalar_answer x.image x.program i others ≡ some (result_of a.numbers a.events a.steps)
run_told x o m a i low high others = go o.run refl a
  where
    go : (r : Result RecordOutcome CallError) → o.run ≡ r → (b : Accepted (record_seen r o.trace))
        → scalar_answer x.image x.program i others ≡ some (result_of b.numbers b.events b.steps)
    go (Ok p) e b =
        let (is, same) = accepted_by p.answer p.execution p.events o.trace b in
        m p e is i low high others ∙ ap (λ (y : RunResult). some y) same
    go (Err f) e b = let z : ◌≡◌ {A = ℕ} 0 1 = cc b.is in absurd (omega arith)

module _ (range : InputRange) (more : range.first < range.last) (c : Computed range) where
  run_promise : PromiseRefuted RunOutput seen_of_run RunPromises (λ p. Unit {0}) range
  run_promise =
      promise_refuted RunOutput seen_of_run RunPromises (λ p. Unit {0}) range
      (λ x w o m a. record { input = x.range.first; told = run_told x o m a x.range.first (omega arith) (rw w (omega (arith, more))) })
      (λ p also x w m a i low high. run_told x (p x) m a i (rw w low) (rw w high) (λ _. 0))
      more c

pub run_promise_refuted : RunPromiseRefuted
run_promise_refuted = record {
  promised = λ x o h. h.guarantee;
  on_invalid_channels = run_promise invalid_channels (omega arith) at_invalid;
  on_twelve_channels = run_promise twelve_channels (omega arith) at_twelve;
}

-- ---- the library

-- a record names an input at least
one_lane : (e : PredicateTransducerExecution) → execution_valid e ≡ true → 1 ≤ e.lane_count
one_lane e v =
    let t4 = both _ (leb e.event_count max_events) v in
    let t3 = both _ (within min_written_bytes e.sparse_memory_bytes max_written_bytes) t4.0 in
    let t2 = both _ (eqb e.lane_value_operations (e.lane_count * e.symbolic_transitions)) t3.0 in
    let t1 = both _ (within (fewest_steps e.lane_count) e.symbolic_transitions max_steps) t2.0 in
    leb-true _ _ (both (leb 1 e.lane_count) _ t1.0).0

-- what a reader has of a record is what the record says
read_result : (e : PredicateTransducerExecution) (es : List CompiledMmioEvent) (ss : List PredicateControlStep) (t : List ℕ) → valid (accepted e es ss) ≡ true
    → FitsRecord (accepted e es ss) → result_read (accepted_outcome e es) (over (trace_bytes ss) t) ≡ result_of e es ss
read_result e es ss t v f =
    let r = rules e es ss v in
    let trace : steps_at 0 e.symbolic_transitions (over (trace_bytes ss) t) ≡ ss
    = ap (λ (k : ℕ). steps_at 0 k (over (trace_bytes ss) t)) (sym r.2) ∙ trace_back ss t f.2 in
    let raised : take e.event_count (over es no_events) ≡ es
    = ap (λ (k : ℕ). take k (over es no_events)) (sym r.1) ∙ take-append_seam es (drop (length es) no_events) in
    rw (trace, raised) refl

module _ (x : Input) (o : LibraryOutput) (m : BytesPromise x o) where
  record Read (a : Accepted (written (ran_said o.answer) o.output)) : Type 0 where
    one : 1 ≤ a.numbers.lane_count
    told : (i : ℕ) → a.numbers.first_input ≤ i → i < a.numbers.first_input + a.numbers.lane_count
        → (others : ℕ → ℕ) → scalar_answer x.image x.program i others ≡ some (result_of a.numbers a.events a.steps)

  read_by : (s : Said) → ran_said o.answer ≡ s → (q : Option Record) → written s o.output ≡ q → (e : PredicateTransducerExecution) (es : List CompiledMmioEvent)
      (ss : List PredicateControlStep) → q ≡ some (accepted e es ss)
      → (1 ≤ e.lane_count) × ((i : ℕ) → e.first_input ≤ i → i < e.first_input + e.lane_count
      → (others : ℕ → ℕ) → scalar_answer x.image x.program i others ≡ some (result_of e es ss))
  read_by (wrote n) w q p e es ss h =
      let d : decode_record (take n o.output) ≡ some (accepted e es ss) = p ∙ h in
      let same = decode_same (take n o.output) (below_take n o.output m.0) (accepted e es ss) d in
      let t : List ℕ = replicate (e.symbolic_transitions * entry_bytes) 0 in
      let l : leb (e.symbolic_transitions * entry_bytes) (length t) ≡ true
      = le-leb (e.symbolic_transitions * entry_bytes) (length t) (omega (arith, length-replicate {A = ℕ} (e.symbolic_transitions * entry_bytes) 0)) in (
        one_lane e (rules e es ss same.rules).0,
        λ i low high others.
            m.1 n w t (accepted_outcome e es) (over (trace_bytes ss) t)
            (rw d (record { answer = rw l; outcome = rw l; trace = rw l })) refl i low high others
            ∙ ap (λ (y : RunResult). some y) (read_result e es ss t same.rules same.fits),
      )
  read_by done w q p e es ss h = let z : ◌≡◌ {A = ℕ} 0 1 = cc (p ∙ h) in absurd (omega arith)
  read_by (refuses k) w q p e es ss h = let z : ◌≡◌ {A = ℕ} 0 1 = cc (p ∙ h) in absurd (omega arith)

  read_of : (a : Accepted (written (ran_said o.answer) o.output)) → Read a
  read_of a =
      let r = read_by (ran_said o.answer) refl (written (ran_said o.answer) o.output) refl a.numbers a.events a.steps a.is in
      record { one = r.0; told = r.1 }

module _ (range : InputRange) (more : range.first < range.last) (c : Computed range) where
  bytes_promise : PromiseRefuted LibraryOutput seen_of BytesPromise NamesRange range
  bytes_promise =
      promise_refuted LibraryOutput seen_of BytesPromise NamesRange range
      (λ x w o m a. record {
        input = a.numbers.first_input;
        told = (read_of x o m a).told a.numbers.first_input (omega arith) (omega (arith, (read_of x o m a).one));
      })
      (λ p also x w m a i low high.
      let named = also x (ap is_accepted a.is) in
      let first : a.numbers.first_input ≡ range.first
      = ap (λ (q : Option Record). (numbers q).first_input) (sym a.is) ∙ named.0 ∙ ap (λ (r : InputRange). r.first) w in
      let many : a.numbers.lane_count ≡ input_count range
      = ap (λ (q : Option Record). (numbers q).lane_count) (sym a.is) ∙ named.1 ∙ ap input_count w in
      (read_of x (p x) m a).told i (omega (arith, low, first)) (omega (arith, high, first, many, more)) (λ _. 0))
      more c

bytes_refuted : BytesRefuted
bytes_refuted = record {
  promised = λ x o h. h.promise;
  on_invalid_channels = bytes_promise invalid_channels (omega arith) at_invalid;
  on_twelve_channels = bytes_promise twelve_channels (omega arith) at_twelve;
}

pub library_refuted : LibraryRefuted
library_refuted = (refuted_over_ranges _ _ _ library_right library_never, bytes_refuted)
