-- The wrong programs against a promise alone: two scalar runs that no one answer can be of.
use mathlib.Core.Path.{◌≡◌, refl, sym, ap, ◌∙◌}
use mathlib.Core.Bool.{true, true≢false}
use mathlib.Core.List.{List, [], ◌∷◌}
use mathlib.Core.Option.{Option, none, some}
use Prim.Native.Nat.{ℕ, ◌+◌, ◌≤◌, ◌<◌}
use native.Mathlib.Omega.{arith}
use Rattle.lane_word.specs.declared.InputRange.{InputRange}
use Rattle.predicate_trace.specs.declared.PredicateControlStep.{PredicateControlStep}
use Rattle.predicate_answer.specs.declared.CompiledMmioEvent.{CompiledMmioEvent}
use Rattle.predicate_answer.specs.declared.PredicateTransducerExecution.{PredicateTransducerExecution}
use Rattle.predicate_semantics.specs.State.{RunResult}
use Rattle.predicate_semantics.specs.Standing.{scalar_answer}
use Rattle.lane_record.specs.Format.{Record, accepted, refused}
use Rattle.wrong_programs.specs.Inputs.{Input, returns_input, returns_unset, returns1, returns0, jump_first, nop_first, raises2, raises3}
use Rattle.wrong_programs.specs.Behaviours.{Observed, is_accepted, numbers, events, steps, Agree}
use Rattle.wrong_programs.specs.Refuted.{PromiseRefuted}
use Rattle.wrong_programs.proofs.Table.{runs, images, Computed, operation, different, unset_zero}

abbrev scalar_at : Input → ℕ → (ℕ → ℕ) → Option RunResult
scalar_at x i others = scalar_answer x.image x.program i others

-- what a record says of its run
abbrev pub result_of : PredicateTransducerExecution → List CompiledMmioEvent → List PredicateControlStep → RunResult
result_of e es ss = record { return_value = e.return_value; steps = e.symbolic_transitions; trace = ss; events = es }

-- what is accepted is a record
pub record Accepted (q : Option Record) : Type 0 where
  pub numbers : PredicateTransducerExecution
  pub events : List CompiledMmioEvent
  pub steps : List PredicateControlStep
  pub is : q ≡ some (accepted numbers events steps)

accepted_by : (q : Option Record) → is_accepted q ≡ true → Accepted q
accepted_by none h = absurd (true≢false (sym h))
accepted_by (some (accepted e es ss)) h = record { numbers = e; events = es; steps = ss; is = refl }
accepted_by (some (refused f)) h = absurd (true≢false (sym h))

abbrev returned : Option RunResult → ℕ
returned none = 0
returned (some r) = r.return_value

abbrev counted : Option RunResult → ℕ
counted none = 0
counted (some r) = r.steps

abbrev traced : Option RunResult → List PredicateControlStep
traced none = []
traced (some r) = r.trace

abbrev raised : Option RunResult → List CompiledMmioEvent
raised none = []
raised (some r) = r.events

abbrev first_word : List PredicateControlStep → ℕ
first_word [] = 0
first_word (s ∷ ss) = s.instruction_word

-- ---- the scalar runs that tell, whatever the input
module _ (range : InputRange) (i j : ℕ) where
  traces_part : Agree (traced (scalar_at (jump_first range) i (λ _. 0))) (traced (scalar_at (nop_first range) j (λ _. 0))) → ⊥
  unfolding runs
  traces_part same = different 0x13 0x8067 (ap (λ (s : PredicateControlStep). s.instruction_word) (sym same.1.0)) (omega arith)

  words_part : traced (scalar_at (returns0 range) i (λ _. 0)) ≡ traced (scalar_at (returns1 range) j (λ _. 0)) → ⊥
  unfolding runs
  words_part same = different 0x00000513 0x00100513 (ap first_word same) (omega arith)

  events_part : raised (scalar_at (raises2 range) i (λ _. 0)) ≡ raised (scalar_at (raises3 range) j (λ _. 0)) → ⊥
  unfolding runs
  events_part same = different 2 3 (ap operation same) (omega arith)

  returns_own : returned (scalar_at (returns_input range) i (λ _. 0)) ≡ i
  unfolding runs
  returns_own = refl

  returns_held : (returned (scalar_at (returns_unset range) i (λ _. 0)) ≡ 0) × (returned (scalar_at (returns_unset range) i (λ _. 1)) ≡ 1)
  unfolding runs
  returns_held = (refl, refl)

  same_value : returned (scalar_at (raises2 range) i (λ _. 0)) ≡ returned (scalar_at (raises3 range) j (λ _. 0))
  unfolding runs
  same_value = refl

  same_steps : counted (scalar_at (raises2 range) i (λ _. 0)) ≡ counted (scalar_at (raises3 range) j (λ _. 0))
  unfolding runs
  same_steps = refl

-- ---- the table, of what is told of an accepted record: by some input, and by all of a range

-- an input of which the record says the scalar run, whatever the other registers hold
pub record Told (x : Input) (e : PredicateTransducerExecution) (es : List CompiledMmioEvent) (ss : List PredicateControlStep) : Type 0 where
  pub input : ℕ
  pub told : (others : ℕ → ℕ) → scalar_at x input others ≡ some (result_of e es ss)

module _ (Output : Type 0) (seen : Output → Observed) (Promises : Input → Output → Type 0) (Also : (Input → Observed) → Type 0) (range : InputRange)
    (some-told : (x : Input) → x.range ≡ range → (o : Output) → Promises x o → (a : Accepted (seen o).recorded) → Told x a.numbers a.events a.steps)
    (each-told : (program : Input → Output) → Also (λ x. seen (program x)) → (x : Input) → x.range ≡ range → Promises x (program x)
    → (a : Accepted (seen (program x)).recorded) → (i : ℕ) → range.first ≤ i → i ≤ range.last
    → scalar_at x i (λ _. 0) ≡ some (result_of a.numbers a.events a.steps))
    (more : range.first < range.last) (c : Computed range) where
  module _ (x : Input) (w : x.range ≡ range) (o : Output) (m : Promises x o) (h : is_accepted (seen o).recorded ≡ true) where
    record At : Type 0 where
      input : ℕ
      value : (numbers (seen o).recorded).return_value ≡ returned (scalar_at x input (λ _. 0))
      count : (numbers (seen o).recorded).symbolic_transitions ≡ counted (scalar_at x input (λ _. 0))
      trace : steps (seen o).recorded ≡ traced (scalar_at x input (λ _. 0))
      raises : events (seen o).recorded ≡ raised (scalar_at x input (λ _. 0))
      again : (v : ℕ) → returned (scalar_at x input (λ _. v)) ≡ returned (scalar_at x input (λ _. 0))

    at : At
    at =
        let a = accepted_by (seen o).recorded h in
        let t = some-told x w o m a in
        let s = t.told (λ _. 0) in
        record {
          input = t.input;
          value = ap (λ (q : Option Record). (numbers q).return_value) a.is ∙ sym (ap returned s);
          count = ap (λ (q : Option Record). (numbers q).symbolic_transitions) a.is ∙ sym (ap counted s);
          trace = ap steps a.is ∙ sym (ap traced s);
          raises = ap events a.is ∙ sym (ap raised s);
          again = λ v. ap returned (t.told (λ _. v) ∙ sym s);
        }

  pub promise_refuted : PromiseRefuted Output seen Promises Also range
  unfolding images
  promise_refuted = record {
    first_input_copied = λ p (b, also) m.
        let a = accepted_by (seen (p (returns_input range))).recorded (b (returns_input range) c.copies.0 c.copies.1) in
        let told = each-told p also (returns_input range) refl m a in
        different range.first (range.first + 1)
        (sym (returns_own range range.first 0)
        ∙ ap returned (told range.first (omega arith) (omega (arith, more)) ∙ sym (told (range.first + 1) (omega arith) (omega (arith, more))))
        ∙ returns_own range (range.first + 1) 0)
        (omega arith);
    trace_invented = λ p (b, u, v) m n.
        let x = at (jump_first range) refl (p (jump_first range)) m u in
        let y = at (nop_first range) refl (p (nop_first range)) n v in
        traces_part range x.input y.input
        (rw (x.trace, y.trace) at (b (jump_first range) (nop_first range) (refl, refl, refl, (refl, refl, refl)) refl));
    unchanging = λ p (b, v) m n.
        let x = at (returns0 range) refl (p (returns0 range)) m (ap is_accepted (b (returns0 range) (returns1 range)) ∙ v) in
        let y = at (returns1 range) refl (p (returns1 range)) n v in
        words_part range x.input y.input (sym x.trace ∙ ap steps (b (returns0 range) (returns1 range)) ∙ y.trace);
    events_invented = λ p (b, u, v) m n.
        let x = at (raises2 range) refl (p (raises2 range)) m u in
        let y = at (raises3 range) refl (p (raises3 range)) n v in
        events_part range x.input y.input
        (sym x.raises
        ∙ b (raises2 range) (raises3 range) (refl, refl, refl, (refl, refl, refl))
        (x.value ∙ same_value range x.input y.input ∙ sym y.value) (x.count ∙ same_steps range x.input y.input ∙ sym y.count)
        ∙ y.raises);
    unset_as_zero = λ p b m.
        let x = at (returns_unset range) refl (p (returns_unset range)) m (b (returns_unset range) (unset_zero range).0 (λ i low high. (unset_zero range).1 i)) in
        different 0 1 (sym (returns_held range x.input 0).0 ∙ sym (x.again 1) ∙ (returns_held range x.input 0).1) (omega arith);
  }
