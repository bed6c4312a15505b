-- Scalar run: the run of one input, without lane words, rows or record. After "else" stands what the lane run refuses with where this one fails.
use Rattle.std.specs.Prelude.{Bool, true, false, ◌&&◌, List, [], ◌∷◌, ◌++◌, ℕ, zero, suc, ◌+◌, ◌*◌, ◌/◌, ◌%◌, leb, ltb, eqb, get_or, length}
use Rattle.std.proofs.Math.Option.{Option, none, some}
use Rattle.rv32_arithmetic.specs.Arithmetic.{add, target}
use Rattle.rv32_arithmetic.specs.Bits.{join}
use Rattle.riscv32imc.specs.Constants.{image_base}
use Rattle.rv32_arithmetic.specs.Value.{value_of}
use Rattle.riscv_decode.specs.declared.Fetched.{Fetched}
use Rattle.predicate_action.specs.declared.Action.{Action}
use Rattle.predicate_action.specs.declared.Action.TheVariants.{Nothing, Literal, Compute, ComputeImmediate, Jump, JumpTo, Branch, Load, Store}
use Rattle.predicate_action.specs.Meaning.{extension_of, meaning}
use Rattle.predicate_answer.specs.declared.CompiledMmioEvent.{CompiledMmioEvent}
use Rattle.predicate_semantics.specs.declared.Rv32SymbolLayout.{Rv32SymbolLayout}
use Rattle.predicate_semantics.specs.Choice.{choose}
use Rattle.predicate_semantics.specs.Program.{Program, memory_end, stop, stop_word, stack_pointer, event_stride, initial, image_end, sized, symbols_placed}
use Rattle.predicate_answer.specs.Blank.{max_events}
use Rattle.predicate_semantics.specs.State.{State, RunResult, Effect, goes, sets, stores, Attempted, fill, at_start, apply}

-- a byte for each address
abbrev pub Bytes : Type 0
Bytes = ℕ → ℕ

-- a value for each register
abbrev pub ScalarState : Type 0
ScalarState = State ℕ Bytes

-- what fails, fails the run
infixl 10 ◌>>=◌
unfoldable pub ◌>>=◌ : {A B : Type 0} → Option A → (A → Option B) → Option B
◌>>=◌ none f = none
◌>>=◌ (some a) f = f a

-- a test
unfoldable pub require : Bool → Option (Unit {0})
require true = some tt
require false = none

-- memory with one byte changed
unfoldable pub put : Bytes → ℕ → ℕ → Bytes
put memory a b = λ x. choose (eqb a x) (λ _. b) (λ _. memory x)

-- the little-endian number in n bytes from an address
unfoldable pub read : Bytes → ℕ → ℕ → ℕ
read memory zero a = 0
read memory (suc n) a = join (memory a) (read memory n (suc a))

-- the low n bytes of a value stored from an address
unfoldable pub write : Bytes → ℕ → ℕ → ℕ → Bytes
write memory zero a v = memory
write memory (suc n) a v = write (put memory a (v % 256)) n (suc a) (v / 256)

-- range: n bytes from an address lie in memory; else 4, 5
unfoldable pub inside : ℕ → ℕ → Option (Unit {0})
inside a n = do
  _ ← require (leb image_base a)
  require (leb (a + n) memory_end)

-- before any step; else 1, 2
unfoldable pub start_tests : ℕ → Rv32SymbolLayout → Option (Unit {0})
start_tests size symbols = do
  _ ← require (sized size)
  require (symbols_placed symbols)

-- a store at an address: range, not below the image's end; else 11
unfoldable pub room_for : ℕ → ℕ → ℕ → Option (Unit {0})
room_for end address n = do
  _ ← inside address n
  require (leb end address)

-- a load: range, then the bytes
unfoldable pub access : Bytes → ℕ → ℕ → Option ℕ
access memory n a = do
  _ ← inside a n
  some (read memory n a)

-- an event's three words from an address on, with its location
unfoldable pub event_at : Bytes → ℕ → ℕ → Option CompiledMmioEvent
event_at memory a location = do
  operation ← access memory 4 a
  offset ← access memory 4 (a + 4)
  value ← access memory 4 (a + 8)
  some (record { operation = operation; offset = offset; value = value; location = location })

-- the events that lie from an address on, from index i on and after those done, one for each location left
unfoldable pub events : ℕ → Bytes → ℕ → List CompiledMmioEvent → List ℕ → Option (List CompiledMmioEvent)
events from memory i done [] = some done
events from memory i done (location ∷ locations) = do
  e ← event_at memory (from + event_stride * i) location
  events from memory (suc i) (done ++ e ∷ []) locations

-- the value of a register
unfoldable pub reg : ScalarState → ℕ → ℕ
reg s i = get_or s.registers i 0

module _ (p : Program) where
  -- a word of so many bytes, as its operation; else 9
  unfoldable pub decode_word : ScalarState → ℕ → ℕ → Option Fetched
  decode_word s word n = do
    operation ← p.core.decode s.steps word
    some (record { operation = operation; length = n; word = word })

  -- a halfword, as the word that it expands to; else 8
  unfoldable pub expand_halfword : ScalarState → ℕ → Option Fetched
  expand_halfword s half = do
    word ← p.core.expand half
    decode_word s word 2

  -- an instruction of four bytes
  unfoldable pub fetch_four : ScalarState → Option Fetched
  fetch_four s = do
    word ← access s.memory 4 s.pc
    decode_word s word 4

  -- the next instruction: its low halfword says whether it is longer
  unfoldable pub fetch : ScalarState → Option Fetched
  fetch s = do
    half ← access s.memory 2 s.pc
    choose (eqb (half % 4) 3) (λ _. fetch_four s) (λ _. expand_halfword s half)

  -- an action on this run's own values; next is the following instruction's address; else 4, 5, 10, 11
  unfoldable pub execute : ScalarState → ℕ → Action → Option (Effect ℕ)
  execute s next Nothing = some (goes next)
  execute s next (Literal rd v) = some (sets rd v next)
  execute s next (Compute rd f a b) = some (sets rd (value_of f (reg s a) (reg s b)) next)
  execute s next (ComputeImmediate rd f a n) = some (sets rd (value_of f (reg s a) n) next)
  execute s next (Jump rd to) = some (sets rd next to)
  execute s next (JumpTo rd a offset) = do
    _ ← require (ltb 0 (target (reg s a) offset))
    some (sets rd next (target (reg s a) offset))
  execute s next (Branch f a b to) =
      some (goes (choose (eqb (value_of f (reg s a) (reg s b)) 0) (λ _. next) (λ _. to)))
  execute s next (Load rd a offset n e) = do
    v ← access s.memory n (add (reg s a) offset)
    some (sets rd (extension_of e v) next)
  execute s next (Store a b offset n) = do
    _ ← room_for (image_end p) (add (reg s a) offset) n
    some (stores (add (reg s a) offset) n (reg s b) next)

  -- the next step with nothing done yet
  unfoldable pub attempt : ScalarState → Option (Attempted ℕ)
  attempt s = do
    fetched ← fetch s
    effect ← execute s (add s.pc fetched.length) (meaning fetched.operation s.pc)
    some (record { fetched = fetched; effect = effect })

  -- a step
  unfoldable pub step : ScalarState → Option ScalarState
  step s = do
    seen ← attempt s
    some (apply write p.symbols.event_count s seen.fetched seen.effect)

  -- the answer at stop: the word at the event count's address is the number of recorded events; else 12
  unfoldable pub finish : ScalarState → Option RunResult
  finish s = do
    count ← access s.memory 4 p.symbols.event_count
    _ ← require (leb count max_events && eqb count (length s.locations))
    es ← events p.symbols.events s.memory 0 [] s.locations
    some (record { return_value = reg s 10; steps = s.steps; trace = s.trace; events = es })

  -- at most so many steps, up to the first arrival at stop; else 3
  unfoldable pub run : ℕ → ScalarState → Option RunResult
  run zero s = choose (eqb s.pc stop) (λ _. finish s) (λ _. none)
  run (suc n) s = choose (eqb s.pc stop) (λ _. finish s) (λ _. step s >>= λ t. run n t)

  -- the state after n steps, none of them at stop
  unfoldable pub after : ℕ → ScalarState → Option ScalarState
  after zero s = some s
  after (suc n) s = choose (eqb s.pc stop) (λ _. none) (λ _. step s >>= λ t. after n t)

  -- the first state, with a value for each register that is not set
  unfoldable pub start : ℕ → (ℕ → ℕ) → Option ScalarState
  start input others = do
    _ ← start_tests (length p.image) p.symbols
    some (record {
      pc = p.symbols.entry;
      registers = fill p.core.registers 0 (at_start 0 stop stack_pointer input others);
      memory = write (initial p.image) 4 stop stop_word;
      steps = 0;
      trace = [];
      locations = [];
    })

  -- the run, with a limit of steps, an input, and values for the registers that are not set
  unfoldable pub scalar_run : ℕ → ℕ → (ℕ → ℕ) → Option RunResult
  scalar_run limit input others = start input others >>= λ s. run limit s

  -- the state that it is in after n steps
  unfoldable pub reached : ℕ → ℕ → (ℕ → ℕ) → Option ScalarState
  reached n input others = start input others >>= λ s. after n s
