-- Control step: the lane run, which is the scalar run's text over all inputs at once, with the tests that lanes and lent space add.
use Rattle.std.specs.Prelude.{◌&&◌, List, [], ◌∷◌, ◌++◌, ℕ, zero, suc, ◌+◌, ◌*◌, ◌%◌, leb, ltb, eqb, get_or, length, Err, Ok, Result}
use Rattle.std.proofs.Math.Option.{Option, none, some}
use Rattle.rv32_arithmetic.specs.Arithmetic.{add, target}
use Rattle.riscv32imc.specs.Constants.{image_base}
use Rattle.rv32_arithmetic.specs.Value.{value_of}
use Rattle.riscv_decode.specs.declared.Fetched.{Fetched}
use Rattle.lane_word.specs.declared.LaneWord.{LaneWord}
use Rattle.lane_word.specs.Word.{unknown, constant, domain, unary, binary, uniform_of}
use Rattle.predicate_action.specs.declared.Action.{Action}
use Rattle.predicate_action.specs.declared.Action.TheVariants.{Nothing, Literal, Compute, ComputeImmediate, Jump, JumpTo, Branch, Load, Store}
use Rattle.predicate_action.specs.Meaning.{extension_of, meaning}
use Rattle.predicate_answer.specs.declared.CompiledMmioEvent.{CompiledMmioEvent}
use Rattle.predicate_answer.specs.declared.PredicateTransducerExecution.{PredicateTransducerExecution}
use Rattle.predicate_semantics.specs.declared.Rv32SymbolLayout.{Rv32SymbolLayout}
use Rattle.predicate_semantics.specs.Choice.{choose}
use Rattle.predicate_semantics.specs.Program.{Core, Program, memory_end, stop, stop_word, stack_pointer, event_stride, image_end, sized, symbols_placed}
use Rattle.predicate_answer.specs.Blank.{max_events}
use Rattle.predicate_semantics.specs.State.{State, RunResult, Effect, goes, sets, stores, Attempted, fill, at_start, apply}
use Rattle.predicate_semantics.specs.Memory.{Written, LaneBytes, lane_bytes, read, write}
use Rattle.predicate_semantics.specs.Tested.{Tested, passed, refused, ◌>>=◌, if_passed, refuse, require, allow, found}
use Rattle.lane_word.specs.declared.UniformError.TheVariants.{Unknown, Uneven}
use Rattle.lane_word.specs.declared.UniformError.{UniformError}
use Rattle.predicate_answer.specs.declared.CallError.{CallError}

-- registers are lane words, memory the written bytes over the image and zeros
abbrev pub LaneState : Type 0
LaneState = State LaneWord (List Written)

-- the inputs, one for each lane, whether what the caller chose is taken, and how many whole rows and trace entries are lent
pub record Setup : Type 0 where
  pub inputs : List ℕ
  pub choice : Result (Unit {0}) CallError
  pub rows : ℕ
  pub entries : ℕ

-- what a run gives: the state that it ends in, with its completed steps and their trace, and its result or its refusal
pub record Ended : Type 0 where
  pub state : LaneState
  pub answer : Tested RunResult

-- Lane word: the answer of a uniform test in a role, which is the value that all lanes share, 6 where it is not known, 7 where they differ
abbrev pub agreed_as : ℕ → Result ℕ UniformError → Tested ℕ
agreed_as role (Ok v) = passed v
agreed_as role (Err Unknown) = refuse 6 role
agreed_as role (Err Uneven) = refuse 7 role

-- .. of a word
unfoldable pub agreed : ℕ → LaneWord → Tested ℕ
agreed role w = agreed_as role (uniform_of w)

-- the range of an access: 4 below memory, 5 past its end
unfoldable pub inside : ℕ → ℕ → Tested (Unit {0})
inside a n = do
  _ ← require 4 (leb image_base a)
  require 5 (leb (a + n) memory_end)

-- Who causes a refusal: before any step, of an image of so many bytes, 1, 2, the caller's choice, and 13 where under four rows are lent
unfoldable pub start_tests : ℕ → Rv32SymbolLayout → Result (Unit {0}) CallError → ℕ → Tested (Unit {0})
start_tests size symbols choice rows = do
  _ ← require 1 (sized size)
  _ ← require 2 (symbols_placed symbols)
  _ ← allow choice
  require 13 (leb 4 rows)

-- a store at a known address: range, 11 below the image's end, 13 where the bytes then written are more than the rows
unfoldable pub room_for : ℕ → ℕ → ℕ → ℕ → ℕ → Tested (Unit {0})
room_for end rows address n written = do
  _ ← inside address n
  _ ← require 11 (leb end address)
  require 13 (leb written rows)

-- go on from a step that passed; a refused step is not completed
unfoldable pub on : LaneState → Tested LaneState → (LaneState → Ended) → Ended
on s (passed t) f = f t
on s (refused r) f = record { state = s; answer = refused r }

module _ (core : Core) (steps : ℕ) where
  -- a word of so many bytes, as its operation; else 9
  unfoldable pub decode_word : ℕ → ℕ → Tested Fetched
  decode_word word n = do
    operation ← found 9 (core.decode steps word)
    passed (record { operation = operation; length = n; word = word })

  -- a halfword, as the word that it expands to; else 8
  unfoldable pub expand_halfword : ℕ → Tested Fetched
  expand_halfword half = do
    word ← found 8 (core.expand half)
    decode_word word 2

module _ (lanes : ℕ) where
  -- a load: range, then the bytes, written ones too
  unfoldable pub access : LaneBytes → ℕ → ℕ → Tested LaneWord
  access memory n a = do
    _ ← inside a n
    passed (read lanes memory n a)

  -- a load whose lanes must agree
  unfoldable pub access_agreed : ℕ → LaneBytes → ℕ → ℕ → Tested ℕ
  access_agreed role memory n a = do
    w ← access memory n a
    agreed role w

  module _ (core : Core) (memory : LaneBytes) (steps pc : ℕ) where
    -- an instruction of four bytes
    unfoldable pub fetch_four : Tested Fetched
    fetch_four = do
      word ← access_agreed 1 memory 4 pc
      decode_word core steps word 4

    -- Control step: the next instruction after so many completed steps; its low halfword says whether it is longer
    unfoldable pub fetch : Tested Fetched
    fetch = do
      half ← access_agreed 1 memory 2 pc
      choose (eqb (half % 4) 3) (λ _. fetch_four) (λ _. expand_halfword core steps half)

  -- an event's three words from an address on, with its location
  unfoldable pub event_at : LaneBytes → ℕ → ℕ → Tested CompiledMmioEvent
  event_at memory a location = do
    operation ← access_agreed 8 memory 4 a
    offset ← access_agreed 9 memory 4 (a + 4)
    value ← access_agreed 10 memory 4 (a + 8)
    passed (record { operation = operation; offset = offset; value = value; location = location })

  -- the events that lie from an address on, from index i on and after those done, one for each location left
  unfoldable pub events : ℕ → LaneBytes → ℕ → List CompiledMmioEvent → List ℕ → Tested (List CompiledMmioEvent)
  events from memory i done [] = passed done
  events from memory i done (location ∷ locations) = do
    e ← event_at memory (from + event_stride * i) location
    events from memory (suc i) (done ++ e ∷ []) locations

module _ (p : Program) (l : Setup) where
  -- one lane for each input
  unfoldable pub count_of_lanes : ℕ
  count_of_lanes = length l.inputs

  -- memory as the lanes see it
  unfoldable pub memory_of : LaneState → LaneBytes
  memory_of s = lane_bytes p.image count_of_lanes s.memory

  -- the lane word of a register
  unfoldable pub reg : LaneState → ℕ → LaneWord
  reg s i = get_or s.registers i (unknown count_of_lanes)

  -- Control step: an action's tests in their order, and what it then changes; next is the following instruction's address
  unfoldable pub execute : LaneState → ℕ → Action → Tested (Effect LaneWord)
  execute s next Nothing = passed (goes next)
  execute s next (Literal rd v) = passed (sets rd (constant count_of_lanes v) next)
  execute s next (Compute rd f a b) = passed (sets rd (binary (value_of f) (reg s a) (reg s b)) next)
  execute s next (ComputeImmediate rd f a n) = passed (sets rd (binary (value_of f) (reg s a) (constant count_of_lanes n)) next)
  execute s next (Jump rd to) = passed (sets rd (constant count_of_lanes next) to)
  execute s next (JumpTo rd a offset) = do
    to ← agreed 2 (unary (λ v. target v offset) (reg s a))
    _ ← require 10 (ltb 0 to)
    passed (sets rd (constant count_of_lanes next) to)
  execute s next (Branch f a b to) = do
    direction ← agreed 5 (binary (value_of f) (reg s a) (reg s b))
    passed (goes (choose (eqb direction 0) (λ _. next) (λ _. to)))
  execute s next (Load rd a offset n e) = do
    address ← agreed 3 (unary (λ v. add v offset) (reg s a))
    w ← access count_of_lanes (memory_of s) n address
    passed (sets rd (unary (extension_of e) w) next)
  execute s next (Store a b offset n) = do
    address ← agreed 4 (unary (λ v. add v offset) (reg s a))
    _ ← room_for (image_end p) l.rows address n (length (write s.memory n address (reg s b)))
    passed (stores address n (reg s b) next)

  -- the next step with nothing done yet: all its tests but the trace space
  unfoldable pub attempt : LaneState → Tested (Attempted LaneWord)
  attempt s = do
    fetched ← fetch count_of_lanes p.core (memory_of s) s.steps s.pc
    effect ← execute s (add s.pc fetched.length) (meaning fetched.operation s.pc)
    passed (record { fetched = fetched; effect = effect })

  -- a step, which needs a trace entry besides
  unfoldable pub step : LaneState → Tested LaneState
  step s = do
    seen ← attempt s
    _ ← require 14 (ltb s.steps l.entries)
    passed (apply write p.symbols.event_count s seen.fetched seen.effect)

  -- at stop, with a return value and an event count: 12, then the events
  unfoldable pub finish_events : LaneState → ℕ → ℕ → Tested RunResult
  finish_events s return_value count = do
    _ ← require 12 (leb count max_events && eqb count (length s.locations))
    es ← events count_of_lanes p.symbols.events (memory_of s) 0 [] s.locations
    passed (record { return_value = return_value; steps = s.steps; trace = s.trace; events = es })

  -- Control step: the answer at stop; the return value is x10
  unfoldable pub finish : LaneState → Tested RunResult
  finish s = do
    return_value ← agreed 6 (reg s 10)
    count ← access_agreed count_of_lanes 7 (memory_of s) 4 p.symbols.event_count
    finish_events s return_value count

  -- at most so many steps, up to the first arrival at stop: the bound (3) is tested before a step
  unfoldable pub run : ℕ → LaneState → Ended
  run zero s = choose (eqb s.pc stop)
      (λ _. record { state = s; answer = finish s })
      (λ _. record { state = s; answer = refuse 3 0 })
  run (suc n) s = choose (eqb s.pc stop)
      (λ _. record { state = s; answer = finish s })
      (λ _. on s (step s) (λ t. run n t))

  -- the state after n completed steps, none of them at stop; none where the run ends before
  unfoldable pub after : ℕ → LaneState → Option LaneState
  after zero s = some s
  after (suc n) s = choose (eqb s.pc stop) (λ _. none) (λ _. if_passed (step s) (λ t. after n t))

  -- Written byte: registers before any step, and the stop word as the first bytes that are written
  unfoldable pub begin : LaneState
  begin = record {
    pc = p.symbols.entry;
    registers = fill p.core.registers 0
        (at_start (constant count_of_lanes 0) (constant count_of_lanes stop) (constant count_of_lanes stack_pointer) (domain l.inputs) (λ _. unknown count_of_lanes));
    memory = write [] 4 stop (constant count_of_lanes stop_word);
    steps = 0;
    trace = [];
    locations = [];
  }

  -- the first state, once the tests before any step are passed
  unfoldable pub start : Tested LaneState
  start = do
    _ ← start_tests (length p.image) p.symbols l.choice l.rows
    passed begin

  -- the run, with a limit of steps
  unfoldable pub lane_run : ℕ → Ended
  lane_run limit = on begin start (λ s. run limit s)

  -- the state that the run is in after n completed steps
  unfoldable pub reached : ℕ → Option LaneState
  reached n = if_passed start (λ s. after n s)

  -- Record: how many bytes are written, stop's four among them
  unfoldable pub written_bytes : LaneState → ℕ
  written_bytes s = length s.memory

  -- Record: one for each lane of each step
  unfoldable pub lane_operations : LaneState → ℕ
  lane_operations s = count_of_lanes * s.steps

  -- an accepted run's numbers, as a record's first item has them
  unfoldable pub execution : LaneState → RunResult → PredicateTransducerExecution
  execution s r = record {
    first_input = get_or l.inputs 0 0;
    lane_count = count_of_lanes;
    return_value = r.return_value;
    symbolic_transitions = r.steps;
    lane_value_operations = lane_operations s;
    sparse_memory_bytes = written_bytes s;
    event_count = length r.events;
  }
