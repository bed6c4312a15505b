-- The table of wrong programs (document 01, Conditions of acceptance), each with the inputs at which it breaks the contract: the run's, the library's,
-- and the promises alone, over the invalid channels and over another range.
use Rattle.std.specs.Prelude.{◌≡◌, false, ◌||◌, List, [], ◌∷◌, ℕ, ◌≤◌, eqb, take, Err, Ok, Result}
use Rattle.std.proofs.Math.Option.{Option, none, some}
use Rattle.little_endian.specs.Number.{AllBytes}
use Rattle.lane_word.specs.declared.InputRange.{InputRange}
use Rattle.lane_word.specs.Range.{invalid_channels}
use Rattle.predicate_answer.specs.declared.CompiledMmioEvent.{CompiledMmioEvent}
use Rattle.predicate_answer.specs.declared.PredicateTransducerExecution.{PredicateTransducerExecution}
use Rattle.predicate_answer.specs.Refusal.{Refusal, number_of}
use Rattle.predicate_semantics.specs.State.{result_read}
use Rattle.predicate_semantics.specs.Tested as Tested
use Rattle.predicate_semantics.specs.Standing.{scalar_answer}
use Rattle.predicate_semantics.specs.Call.{run_of}
use Rattle.lane_record.specs.Format.{Record, refused}
use Rattle.lane_record.specs.Decode.{decode_record}
use Rattle.lane_record.specs.Answers.{Said, done, wrote, refuses, accepted_given}
use Rattle.riscv32imc_predicate.specs.Outcome.{Ran}
use Rattle.lane_library.specs.declared.RunError.{RunError}
use Rattle.lane_library.specs.Promise.{Promise}
use Rattle.lane_library.specs.Outcome.{lent, ran_said, Runs}
use Rattle.wrong_programs.specs.Inputs.{Input, call_at, twelve_channels, invalid_of_twelve, returns_input, returns_unset, returns1, returns0, jump_first, nop_first, stores_at_stop, stores_below, raises2, raises3, is_below12}
use Rattle.wrong_programs.specs.Behaviours.{Observed, no_space_at_once, AcceptsAt, NamesRange, CopiesFirstInput, InventsLaterTrace, InventsWrittenBytes, RefusesWithSpaceLeft, NeverChanges, RefusesEachImage, LeavesEmpty, InventsEvents, TakesUnsetAsZero, LeavesRows, IgnoresRange}
use Rattle.predicate_answer.specs.declared.CallError.{CallError}
use Rattle.predicate_answer.specs.declared.RecordOutcome.{RecordOutcome}
use Rattle.predicate_answer.specs.declared.RecordRefusal.{RecordRefusal}

-- the lent rows and entries suffice for the run: it is refused neither with 13 nor with 14
abbrev pub Suffices : Input → Type 0
Suffices x = (r : Refusal) → (run_of (call_at x)).answer ≡ Tested.refused r → (eqb (number_of r) 13 || eqb (number_of r) 14) ≡ false

-- over what a program answers and leaves, what is seen of that, and the contract
module _ (Output : Type 0) (seen : Output → Observed) (Meets : Input → Output → Type 0) where
  -- it does not meet the contract at all of these inputs
  abbrev pub FailsAt : (Input → Output) → List Input → Type 0
  FailsAt program [] = ⊥
  FailsAt program (x ∷ xs) = Meets x (program x) → FailsAt program xs

  -- no program that behaves so does
  abbrev pub Breaks : ((Input → Observed) → Type 0) → List Input → Type 0
  Breaks Behaves inputs = (program : Input → Output) → Behaves (λ x. seen (program x)) → FailsAt program inputs

  -- 4 at any one input: where what is lent suffices for the run, it never finds no space at once
  abbrev pub NeverAtOnce : Type 0
  NeverAtOnce = (x : Input) → Suffices x → (o : Output) → Meets x o → no_space_at_once (seen o).recorded ≡ false

  -- none of the wrong programs meets the contract over a range
  pub record Refuted (range : InputRange) : Type 0 where
    -- 1. the image that returns its input
    pub first_input_copied : Breaks CopiesFirstInput (returns_input range ∷ [])
    -- 2. two images that part after their first instruction
    pub trace_invented : Breaks InventsLaterTrace (jump_first range ∷ nop_first range ∷ [])
    -- 3. a store over the stop word, and one beside it
    pub written_bytes_invented : Breaks InventsWrittenBytes (stores_at_stop range ∷ stores_below range ∷ [])
    -- 4. the example, with four rows and an entry for each step
    pub space_left : Breaks RefusesWithSpaceLeft (returns1 range ∷ [])
    pub space_left_once : NeverAtOnce
    -- 5. images that return 0 and 1
    pub unchanging : Breaks NeverChanges (returns0 range ∷ returns1 range ∷ [])
    -- 6. the example
    pub each_image_refused : Breaks RefusesEachImage (returns1 range ∷ [])
    -- 7. the example
    pub left_empty : Breaks LeavesEmpty (returns1 range ∷ [])
    -- 8. an event of operation 2, and of operation 3
    pub events_invented : Breaks InventsEvents (raises2 range ∷ raises3 range ∷ [])
    -- 9. the image that returns what is not set
    pub unset_as_zero : Breaks TakesUnsetAsZero (returns_unset range ∷ [])
    -- 10. the example
    pub rows_left : Breaks LeavesRows (returns1 range ∷ [])

  -- .. over the invalid channels, and over a range that holds 0 to 5; and 11, none takes one range for another
  pub record RefutedOverRanges : Type 0 where
    pub on_invalid_channels : Refuted invalid_channels
    pub on_twelve_channels : Refuted twelve_channels
    pub range_ignored : Breaks IgnoresRange (is_below12 twelve_channels ∷ is_below12 invalid_of_twelve ∷ [])

  -- of a promise alone: the programs that are to break demand 3 do so where they accept; what goes with 1 is asked beside it
  pub record PromiseRefuted (Also : (Input → Observed) → Type 0) (range : InputRange) : Type 0 where
    -- 1
    pub first_input_copied : Breaks (λ p. CopiesFirstInput p × Also p) (returns_input range ∷ [])
    -- 2
    pub trace_invented : Breaks (λ p. InventsLaterTrace p × AcceptsAt p (jump_first range) × AcceptsAt p (nop_first range)) (jump_first range ∷ nop_first range ∷ [])
    -- 5
    pub unchanging : Breaks (λ p. NeverChanges p × AcceptsAt p (returns1 range)) (returns0 range ∷ returns1 range ∷ [])
    -- 8
    pub events_invented : Breaks (λ p. InventsEvents p × AcceptsAt p (raises2 range) × AcceptsAt p (raises3 range)) (raises2 range ∷ raises3 range ∷ [])
    -- 9
    pub unset_as_zero : Breaks TakesUnsetAsZero (returns_unset range ∷ [])

-- ---- the run, `execute_predicate`

pub record RunOutput : Type 0 where
  pub run : Result RecordOutcome CallError
  pub rows : List ℕ
  pub trace : List ℕ

-- the record that an answer, numbers and events are, with the trace beside them
abbrev pub record_by : Result (Unit {0}) RecordRefusal → PredicateTransducerExecution → List CompiledMmioEvent → List ℕ → Record
record_by (Ok tt) e es t = accepted_given e es t
record_by (Err f) e es t = refused f

-- that of a run; none of a refused call
abbrev pub record_seen : Result RecordOutcome CallError → List ℕ → Option Record
record_seen (Ok o) t = some (record_by o.answer o.execution o.events t)
record_seen (Err x) t = none

abbrev pub seen_of_run : RunOutput → Observed
seen_of_run o = record { recorded = record_seen o.run o.trace; rows = o.rows; trace = o.trace }

abbrev pub RunMeets : Input → RunOutput → Type 0
RunMeets x o = Ran x.image x.program x.range x.rows x.trace o.run o.rows o.trace

abbrev pub RunRefuted : Type 0
RunRefuted = RefutedOverRanges RunOutput seen_of_run RunMeets

-- its promise
abbrev pub RunPromises : Input → RunOutput → Type 0
RunPromises x o =
    (outcome : RecordOutcome) → o.run ≡ Ok outcome → outcome.answer ≡ Ok tt
    → (input : ℕ) → x.range.first ≤ input → input ≤ x.range.last
    → (others : ℕ → ℕ) → scalar_answer x.image x.program input others ≡ some (result_read outcome o.trace)

pub record RunPromiseRefuted : Type 0 where
  pub promised : (x : Input) (o : RunOutput) → RunMeets x o → RunPromises x o
  pub on_invalid_channels : PromiseRefuted RunOutput seen_of_run RunPromises (λ p. Unit {0}) invalid_channels
  pub on_twelve_channels : PromiseRefuted RunOutput seen_of_run RunPromises (λ p. Unit {0}) twelve_channels

-- ---- the library

-- the record that the written bytes are
abbrev pub written : Said → List ℕ → Option Record
written (wrote n) output = decode_record (take n output)
written done output = none
written (refuses n) output = none

-- what a function of the library answers, and the lent memory after it
pub record LibraryOutput : Type 0 where
  pub answer : Result ℕ RunError
  pub rows : List ℕ
  pub trace : List ℕ
  pub output : List ℕ

abbrev pub seen_of : LibraryOutput → Observed
seen_of o = record { recorded = written (ran_said o.answer) o.output; rows = o.rows; trace = o.trace }

-- the contract of `run_with`, and of the other functions that run, at other arguments: of `run_input` at the image and program of its bytes and the invalid channels
abbrev pub LibraryMeets : Input → LibraryOutput → Type 0
LibraryMeets x o = Runs x.image x.program x.range (lent x.rows x.trace x.output) o.answer (lent o.rows o.trace o.output)

-- the promise over the bytes that it leaves
abbrev pub BytesPromise : Input → LibraryOutput → Type 0
BytesPromise x o = AllBytes o.output × Promise x.image x.program (ran_said o.answer) o.output

-- it holds of what meets the contract, and the wrong programs break it
pub record BytesRefuted : Type 0 where
  pub promised : (x : Input) (o : LibraryOutput) → LibraryMeets x o → Promise x.image x.program (ran_said o.answer) o.output
  pub on_invalid_channels : PromiseRefuted LibraryOutput seen_of BytesPromise NamesRange invalid_channels
  pub on_twelve_channels : PromiseRefuted LibraryOutput seen_of BytesPromise NamesRange twelve_channels

abbrev pub LibraryRefuted : Type 0
LibraryRefuted = RefutedOverRanges LibraryOutput seen_of LibraryMeets × BytesRefuted
