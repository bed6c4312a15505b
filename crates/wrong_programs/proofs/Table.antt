-- Each row of the table of wrong programs, by the runs of its inputs.
use mathlib.Core.Path.{◌≡◌, refl, sym, ap, ◌∙◌}
use mathlib.Core.Bool.{true, false, true≢false}
use mathlib.Core.Logic.{⊎_elim}
use mathlib.Core.Option.{Option, some}
use mathlib.Core.List.{List, [], ◌∷◌}
use Prim.Native.Nat.{ℕ, ◌<◌}
use native.Mathlib.Omega.{arith}
use lib.ListN.{get_or}
use Rattle.lane_word.specs.declared.InputRange.{InputRange}
use Rattle.lane_word.specs.Range.{invalid_channels}
use Rattle.predicate_semantics.specs.State.{RunResult}
use Rattle.predicate_semantics.specs.Tested.{passed}
use Rattle.predicate_semantics.specs.Lane as Lane
use Rattle.predicate_semantics.specs.Cases as Cases
use Rattle.predicate_semantics.specs.Standing.{scalar_answer}
use Rattle.predicate_semantics.proofs.Computing.{expansion, decoding, words, running, scalar, calls}
use Rattle.predicate_trace.specs.declared.PredicateControlStep.{PredicateControlStep}
use Rattle.predicate_answer.specs.declared.CompiledMmioEvent.{CompiledMmioEvent}
use Rattle.predicate_answer.specs.declared.PredicateTransducerExecution.{PredicateTransducerExecution}
use Rattle.lane_memory.specs.LentRows.{cleared}
use Rattle.lane_record.specs.Format.{Record}
use Rattle.lane_record.specs.Decode.{decode_record}
use Rattle.wrong_programs.specs.Inputs.{Input, twelve_channels, invalid_of_twelve, returns_input, returns_unset, returns1, returns0, jump_first, nop_first, stores_at_stop, stores_below, raises2, raises3, is_below12}
use Rattle.wrong_programs.specs.Behaviours.{Observed, is_accepted, numbers, other_numbers, no_space_at_once, events, steps, Agree, copied, IgnoresRange}
use Rattle.wrong_programs.specs.Refuted.{Breaks, NeverAtOnce, Refuted, RefutedOverRanges, RunOutput, seen_of_run, RunMeets, RunRefuted}
use Rattle.wrong_programs.proofs.Right.{Right, record_at, trace_at, Served, run_right, run_never}

-- to unfold this is to unfold what its line names
unfoldable pub runs : Unit {0}
unfolding expansion decoding words running scalar calls Lane.execution Lane.lane_operations Lane.written_bytes Cases.symbols Cases.word Cases.half Cases.return1 decode_record
runs = tt

-- .. and of the images, as far as their lengths go
unfoldable pub images : Unit {0}
unfolding Cases.symbols Cases.word Cases.half Cases.return1
images = tt

abbrev written : Option Record → ℕ
written q = (numbers q).sparse_memory_bytes

abbrev returned : Option Record → ℕ
returned q = (numbers q).return_value

abbrev stepped : Option Record → ℕ
stepped q = (numbers q).symbolic_transitions

-- the operation of the first event, 0 without one
abbrev pub operation : List CompiledMmioEvent → ℕ
operation [] = 0
operation (e ∷ es) = e.operation

pub different : (n m : ℕ) → n ≡ m → n < m → ⊥
different n m h k = omega (arith, h, k)

-- ---- what is computed, over one range: a run that accepts, or that does not, and what tells two runs apart
pub record Computed (range : InputRange) : Type 0 where
  pub served_input : Served (returns_input range)
  pub served_unset : Served (returns_unset range)
  pub served_0 : Served (returns0 range)
  pub served_1 : Served (returns1 range)
  pub served_jump : Served (jump_first range)
  pub served_nop : Served (nop_first range)
  pub served_at_stop : Served (stores_at_stop range)
  pub served_below : Served (stores_below range)
  pub served_2 : Served (raises2 range)
  pub served_3 : Served (raises3 range)
  pub copies : (r : RunResult) × ((copied (returns_input range)).answer ≡ passed r)
  pub input_refused : is_accepted (record_at (returns_input range)) ≡ false
  pub traces_part : Agree (steps (record_at (jump_first range))) (steps (record_at (nop_first range))) → ⊥
  pub written_at_stop : written (record_at (stores_at_stop range)) ≡ 4
  pub written_below : written (record_at (stores_below range)) ≡ 8
  pub stores_alike : other_numbers (numbers (record_at (stores_at_stop range))) ≡ other_numbers (numbers (record_at (stores_below range)))
  pub has_space : no_space_at_once (record_at (returns1 range)) ≡ false
  pub returns_0 : returned (record_at (returns0 range)) ≡ 0
  pub returns_1 : returned (record_at (returns1 range)) ≡ 1
  pub accepts_1 : is_accepted (record_at (returns1 range)) ≡ true
  pub entry_byte : get_or (trace_at (returns1 range)) 3 0 ≡ 0x80
  pub row_byte_zero : get_or (cleared (returns1 range).rows) 0 0 ≡ 0
  pub raised_2 : operation (events (record_at (raises2 range))) ≡ 2
  pub raised_3 : operation (events (record_at (raises3 range))) ≡ 3
  pub returns_alike : returned (record_at (raises2 range)) ≡ returned (record_at (raises3 range))
  pub steps_alike : stepped (record_at (raises2 range)) ≡ stepped (record_at (raises3 range))
  pub unset_refused : is_accepted (record_at (returns_unset range)) ≡ false

-- what the scalar run of each input answers where a register is not set and holds 0
pub unset_zero : (range : InputRange) → (r : RunResult) × ((i : ℕ) → scalar_answer (returns_unset range).image (returns_unset range).program i (λ _. 0) ≡ some r)
unfolding runs
unset_zero range = (_, λ i. refl)

-- ---- computed
pub at_invalid : Computed invalid_channels
unfolding runs
at_invalid = record {
  served_input = refl;
  served_unset = refl;
  served_0 = refl;
  served_1 = refl;
  served_jump = refl;
  served_nop = refl;
  served_at_stop = refl;
  served_below = refl;
  served_2 = refl;
  served_3 = refl;
  copies = (_, refl);
  input_refused = refl;
  traces_part = λ same. different 0x13 0x8067 (ap (λ (s : PredicateControlStep). s.instruction_word) (sym same.1.0)) (omega arith);
  written_at_stop = refl;
  written_below = refl;
  stores_alike = refl;
  has_space = refl;
  returns_0 = refl;
  returns_1 = refl;
  accepts_1 = refl;
  entry_byte = refl;
  row_byte_zero = refl;
  raised_2 = refl;
  raised_3 = refl;
  returns_alike = refl;
  steps_alike = refl;
  unset_refused = refl;
}

pub at_twelve : Computed twelve_channels
unfolding runs
at_twelve = record {
  served_input = refl;
  served_unset = refl;
  served_0 = refl;
  served_1 = refl;
  served_jump = refl;
  served_nop = refl;
  served_at_stop = refl;
  served_below = refl;
  served_2 = refl;
  served_3 = refl;
  copies = (_, refl);
  input_refused = refl;
  traces_part = λ same. different 0x13 0x8067 (ap (λ (s : PredicateControlStep). s.instruction_word) (sym same.1.0)) (omega arith);
  written_at_stop = refl;
  written_below = refl;
  stores_alike = refl;
  has_space = refl;
  returns_0 = refl;
  returns_1 = refl;
  accepts_1 = refl;
  entry_byte = refl;
  row_byte_zero = refl;
  raised_2 = refl;
  raised_3 = refl;
  returns_alike = refl;
  steps_alike = refl;
  unset_refused = refl;
}

-- 11. what the two ranges return
record Returned (range : InputRange) (value : ℕ) : Type 0 where
  served : Served (is_below12 range)
  is : returned (record_at (is_below12 range)) ≡ value

below_12 : Returned twelve_channels 1
unfolding runs
below_12 = record { served = refl; is = refl }

not_below_12 : Returned invalid_of_twelve 0
unfolding runs
not_below_12 = record { served = refl; is = refl }

-- ---- the table, from that

module _ (Output : Type 0) (seen : Output → Observed) (Meets : Input → Output → Type 0)
    (right : (x : Input) → Served x → (o : Output) → Meets x o → Right x (seen o))
    (never : NeverAtOnce Output seen Meets) where
  module _ (range : InputRange) (c : Computed range) where
    pub refuted : Refuted Output seen Meets range
    unfolding images
    refuted = record {
      first_input_copied = λ p b m. true≢false
          (sym (b (returns_input range) c.copies.0 c.copies.1) ∙ ap is_accepted (right (returns_input range) c.served_input _ m).recorded ∙ c.input_refused);
      trace_invented = λ p b m n.
          c.traces_part
          (rw ((right (jump_first range) c.served_jump _ m).recorded, (right (nop_first range) c.served_nop _ n).recorded) at
          (b (jump_first range) (nop_first range) (refl, refl, refl, (refl, refl, refl)) refl));
      written_bytes_invented = λ p b m n.
          let at_stop_same = (right (stores_at_stop range) c.served_at_stop _ m).recorded in
          let below = (right (stores_below range) c.served_below _ n).recorded in
          different 4 8
          (sym c.written_at_stop ∙ sym (ap written at_stop_same)
          ∙ b (stores_at_stop range) (stores_below range) (refl, refl, refl, (refl, refl, refl))
          (ap (λ (q : Option Record). other_numbers (numbers q)) at_stop_same ∙ c.stores_alike ∙ sym (ap (λ (q : Option Record). other_numbers (numbers q)) below))
          ∙ ap written below ∙ c.written_below)
          (omega arith);
      space_left = λ p b m. true≢false
          (sym (b (returns1 range) (omega arith) (omega arith)) ∙ ap no_space_at_once (right (returns1 range) c.served_1 _ m).recorded ∙ c.has_space);
      space_left_once = never;
      unchanging = λ p b m n. different 0 1
          (sym c.returns_0
          ∙ ap returned (sym (right (returns0 range) c.served_0 _ m).recorded ∙ b (returns0 range) (returns1 range) ∙ (right (returns1 range) c.served_1 _ n).recorded)
          ∙ c.returns_1)
          (omega arith);
      each_image_refused = λ p b m. true≢false
          (sym c.accepts_1 ∙ sym (ap is_accepted (right (returns1 range) c.served_1 _ m).recorded) ∙ b (returns1 range));
      left_empty = λ p b m.
          ⊎_elim
          (λ t. different 0 0x80 (ap (λ (t : List ℕ). get_or t 3 0) (sym t ∙ (right (returns1 range) c.served_1 _ m).trace) ∙ c.entry_byte) (omega arith))
          (λ e. different 0 1
          (ap (λ (x : PredicateTransducerExecution). x.return_value) (sym e ∙ ap numbers (right (returns1 range) c.served_1 _ m).recorded) ∙ c.returns_1)
          (omega arith))
          (b (returns1 range));
      events_invented = λ p b m n.
          let two = (right (raises2 range) c.served_2 _ m).recorded in
          let three = (right (raises3 range) c.served_3 _ n).recorded in
          different 2 3
          (sym c.raised_2 ∙ sym (ap (λ (q : Option Record). operation (events q)) two)
          ∙ ap operation (b (raises2 range) (raises3 range) (refl, refl, refl, (refl, refl, refl))
          (ap returned two ∙ c.returns_alike ∙ sym (ap returned three)) (ap stepped two ∙ c.steps_alike ∙ sym (ap stepped three)))
          ∙ ap (λ (q : Option Record). operation (events q)) three ∙ c.raised_3)
          (omega arith);
      unset_as_zero = λ p b m. true≢false
          (sym (b (returns_unset range) (unset_zero range).0 (λ i low high. (unset_zero range).1 i))
          ∙ ap is_accepted (right (returns_unset range) c.served_unset _ m).recorded ∙ c.unset_refused);
      rows_left = λ p b m. different 0 7
          (sym c.row_byte_zero ∙ ap (λ (r : List ℕ). get_or r 0 0) (sym (right (returns1 range) c.served_1 _ m).rows ∙ b (returns1 range)))
          (omega arith);
    }

  range_ignored : Breaks Output seen Meets IgnoresRange (is_below12 twelve_channels ∷ is_below12 invalid_of_twelve ∷ [])
  range_ignored p b m n = different 0 1
      (sym not_below_12.is ∙ sym (ap returned (right (is_below12 invalid_of_twelve) not_below_12.served _ n).recorded)
      ∙ sym (b (is_below12 twelve_channels) (is_below12 invalid_of_twelve) refl refl (refl, refl, refl))
      ∙ ap returned (right (is_below12 twelve_channels) below_12.served _ m).recorded ∙ below_12.is)
      (omega arith)

  pub refuted_over_ranges : RefutedOverRanges Output seen Meets
  refuted_over_ranges = record {
    on_invalid_channels = refuted invalid_channels at_invalid;
    on_twelve_channels = refuted twelve_channels at_twelve;
    range_ignored = range_ignored;
  }

pub run_refuted : RunRefuted
run_refuted = refuted_over_ranges RunOutput seen_of_run RunMeets (λ x s. run_right x) run_never
