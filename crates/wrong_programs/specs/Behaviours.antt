-- What the wrong programs do (document 01, Conditions of acceptance, and four more), over what is seen of a program at each input.
use Rattle.std.specs.Prelude.{◌≡◌, Bool, true, false, ◌&&◌, ◌||◌, ◌⊎◌, List, [], ◌∷◌, ℕ, ◌-◌, ◌≤◌, eqb, length, take, drop, replicate, Ok}
use Rattle.std.proofs.Math.Option.{Option, none, some}
use Rattle.riscv32imc.specs.Constants.{image_base, max_steps}
use Rattle.lane_word.specs.Range.{input_count}
use Rattle.predicate_trace.specs.declared.PredicateControlStep.{PredicateControlStep}
use Rattle.predicate_answer.specs.declared.CompiledMmioEvent.{CompiledMmioEvent}
use Rattle.predicate_answer.specs.declared.PredicateTransducerExecution.{PredicateTransducerExecution}
use Rattle.predicate_answer.specs.Blank.{no_execution}
use Rattle.predicate_semantics.specs.State.{RunResult}
use Rattle.predicate_semantics.specs.Tested.{passed}
use Rattle.predicate_semantics.specs.Lane.{Ended, lane_run}
use Rattle.predicate_semantics.specs.Standing.{scalar_answer}
use Rattle.predicate_semantics.specs.Call.{program_in}
use Rattle.lane_memory.specs.LentRows.{row_count}
use Rattle.lane_record.specs.Format.{Record, accepted, refused}
use Rattle.predicate_trace.specs.Trace.{entry_count}
use Rattle.wrong_programs.specs.Inputs.{Input, call_at}

-- what is seen of a program at an input: the record, if there is one, and the lent rows and trace afterwards
pub record Observed : Type 0 where
  pub recorded : Option Record
  pub rows : List ℕ
  pub trace : List ℕ

-- there is an accepted record
abbrev pub is_accepted : Option Record → Bool
is_accepted none = false
is_accepted (some (accepted e es ss)) = true
is_accepted (some (refused f)) = false

-- the numbers of an accepted run, else zeros
abbrev pub numbers : Option Record → PredicateTransducerExecution
numbers none = no_execution
numbers (some (accepted e es ss)) = e
numbers (some (refused f)) = no_execution

-- its events
abbrev pub events : Option Record → List CompiledMmioEvent
events none = []
events (some (accepted e es ss)) = es
events (some (refused f)) = []

-- its steps
abbrev pub steps : Option Record → List PredicateControlStep
steps none = []
steps (some (accepted e es ss)) = ss
steps (some (refused f)) = []

-- the same steps, as far as both go
abbrev pub Agree : List PredicateControlStep → List PredicateControlStep → Type 0
Agree [] ts = Unit {0}
Agree (s ∷ ss) [] = Unit {0}
Agree (s ∷ ss) (t ∷ ts) = (s ≡ t) × Agree ss ts

-- return value, steps and number of events
abbrev pub other_numbers : PredicateTransducerExecution → List ℕ
other_numbers e = e.return_value ∷ e.symbolic_transitions ∷ e.event_count ∷ []

-- Who causes a refusal: too few rows or entries, said before a step is completed
abbrev pub no_space_at_once : Option Record → Bool
no_space_at_once none = false
no_space_at_once (some (accepted e es ss)) = false
no_space_at_once (some (refused f)) = (eqb f.number 13 || eqb f.number 14) && eqb f.steps 0

-- the lane run whose lanes all hold the first input
abbrev pub copied : Input → Ended
copied x =
    lane_run (program_in (call_at x))
    (record { inputs = replicate (input_count x.range) x.range.first; choice = Ok tt; rows = row_count x.rows; entries = entry_count x.trace }) max_steps

-- the bytes at the entry, as many as an instruction can have
abbrev pub first_instruction : Input → List ℕ
first_instruction x = take 4 (drop (x.program.symbols.entry - image_base) x.image)

-- the same lent memory
abbrev pub LentAlike : Input → Input → Type 0
LentAlike x y = (x.rows ≡ y.rows) × (x.trace ≡ y.trace) × (x.output ≡ y.output)

-- the same program and range, as long an image, and the same lent memory
abbrev pub Alike : Input → Input → Type 0
Alike x y = (x.program ≡ y.program) × (x.range ≡ y.range) × (length x.image ≡ length y.image) × LentAlike x y

module _ (program : Input → Observed) where
  -- it accepts there
  abbrev pub AcceptsAt : Input → Type 0
  AcceptsAt x = is_accepted (program x).recorded ≡ true

  -- .. and everywhere
  abbrev pub AcceptsAll : Type 0
  AcceptsAll = (x : Input) → AcceptsAt x

  -- its accepted records carry the range
  abbrev pub NamesRange : Type 0
  NamesRange =
      (x : Input) → AcceptsAt x
      → ((numbers (program x).recorded).first_input ≡ x.range.first) × ((numbers (program x).recorded).lane_count ≡ input_count x.range)

  -- 1. the first input's run serves for all of them (of 6 to 255, a run of input 6 copied): it accepts what lanes that all hold that input pass
  abbrev pub CopiesFirstInput : Type 0
  CopiesFirstInput = (x : Input) (r : RunResult) → (copied x).answer ≡ passed r → AcceptsAt x

  -- 2. the steps after the first are made up: nothing of the image past its first instruction tells in them
  abbrev pub InventsLaterTrace : Type 0
  InventsLaterTrace =
      (x y : Input) → Alike x y → first_instruction x ≡ first_instruction y
      → Agree (steps (program x).recorded) (steps (program y).recorded)

  -- 3. the number of written bytes is made up: runs that agree in the other numbers agree in this one, wherever they store
  abbrev pub InventsWrittenBytes : Type 0
  InventsWrittenBytes =
      (x y : Input) → Alike x y
      → other_numbers (numbers (program x).recorded) ≡ other_numbers (numbers (program y).recorded)
      → (numbers (program x).recorded).sparse_memory_bytes ≡ (numbers (program y).recorded).sparse_memory_bytes

  -- 4. it finds no space at once, though the stop word's rows are lent, and an entry
  abbrev pub RefusesWithSpaceLeft : Type 0
  RefusesWithSpaceLeft =
      (x : Input) → 4 ≤ row_count x.rows → 1 ≤ entry_count x.trace → no_space_at_once (program x).recorded ≡ true

  -- 5. its record is the same for every input
  abbrev pub NeverChanges : Type 0
  NeverChanges = (x y : Input) → (program x).recorded ≡ (program y).recorded

  -- 6. it never accepts
  abbrev pub RefusesEachImage : Type 0
  RefusesEachImage = (x : Input) → is_accepted (program x).recorded ≡ false

  -- 7. the lent trace stays as it was, or the record has no numbers: either is enough
  abbrev pub LeavesEmpty : Type 0
  LeavesEmpty = (x : Input) → ((program x).trace ≡ x.trace) ⊎ (numbers (program x).recorded ≡ no_execution)

  -- 8. the events are made up: runs that agree in return value and steps agree in the events, whatever they raise
  abbrev pub InventsEvents : Type 0
  InventsEvents =
      (x y : Input) → Alike x y
      → (numbers (program x).recorded).return_value ≡ (numbers (program y).recorded).return_value
      → (numbers (program x).recorded).symbolic_transitions ≡ (numbers (program y).recorded).symbolic_transitions
      → events (program x).recorded ≡ events (program y).recorded

  -- 9. what is not set counts as 0: it accepts where the scalar runs with zeros in the other registers answer alike
  abbrev pub TakesUnsetAsZero : Type 0
  TakesUnsetAsZero =
      (x : Input) (r : RunResult)
      → ((i : ℕ) → x.range.first ≤ i → i ≤ x.range.last → scalar_answer x.image x.program i (λ _. 0) ≡ some r) → AcceptsAt x

  -- 10. the lent rows stay as they were
  abbrev pub LeavesRows : Type 0
  LeavesRows = (x : Input) → (program x).rows ≡ x.rows

  -- 11. the range is not looked at: what differs in it alone has the same return value
  abbrev pub IgnoresRange : Type 0
  IgnoresRange =
      (x y : Input) → x.image ≡ y.image → x.program ≡ y.program → LentAlike x y
      → (numbers (program x).recorded).return_value ≡ (numbers (program y).recorded).return_value

-- some program behaves so
abbrev pub Possible : ((Input → Observed) → Type 0) → Type 0
Possible Behaves = (program : Input → Observed) × Behaves program

-- none of these behaviours is empty, with what the refutations ask beside them
pub record AllPossible : Type 0 where
  pub first_input_copied : Possible (λ p. CopiesFirstInput p × NamesRange p)
  pub trace_invented : Possible (λ p. InventsLaterTrace p × AcceptsAll p)
  pub written_bytes_invented : Possible InventsWrittenBytes
  pub space_left : Possible RefusesWithSpaceLeft
  pub unchanging : Possible (λ p. NeverChanges p × AcceptsAll p)
  pub each_image_refused : Possible RefusesEachImage
  pub left_empty : Possible LeavesEmpty
  pub events_invented : Possible (λ p. InventsEvents p × AcceptsAll p)
  pub unset_as_zero : Possible TakesUnsetAsZero
  pub rows_left : Possible LeavesRows
  pub range_ignored : Possible IgnoresRange
