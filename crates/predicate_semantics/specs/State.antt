-- What the state of a run is and how a step changes it, for both runs: over the values W that registers hold, and over memory M.
use Rattle.std.specs.Prelude.{◌&&◌, List, [], ◌∷◌, ◌++◌, ℕ, zero, suc, eqb, set, take}
use Rattle.riscv_decode.specs.declared.Fetched.{Fetched}
use Rattle.predicate_trace.specs.declared.PredicateControlStep.{PredicateControlStep}
use Rattle.predicate_trace.specs.Trace.{steps_at}
use Rattle.predicate_answer.specs.declared.CompiledMmioEvent.{CompiledMmioEvent}
use Rattle.predicate_answer.specs.declared.RecordOutcome.{RecordOutcome}
use Rattle.predicate_semantics.specs.Choice.{choose}

-- Scalar run: the state of a run
pub record State (W M : Type 0) : Type 0 where
  pub pc : ℕ
  pub registers : List W
  pub memory : M
  pub steps : ℕ
  pub trace : List PredicateControlStep
  -- all of them: that the code keeps so many and counts the others shows in no answer, since 12 comes before one more is read
  pub locations : List ℕ

-- what a run that reaches stop answers: x10, the steps, the trace, and the events in their order, each with its location
pub record RunResult : Type 0 where
  pub return_value : ℕ
  pub steps : ℕ
  pub trace : List PredicateControlStep
  pub events : List CompiledMmioEvent

-- Record: the result that an accepted outcome and the trace beside it say
abbrev pub result_read : RecordOutcome → List ℕ → RunResult
result_read o t = record {
  return_value = o.execution.return_value;
  steps = o.execution.symbolic_transitions;
  trace = steps_at 0 o.execution.symbolic_transitions t;
  events = take o.execution.event_count o.events;
}

-- what an operation changes besides the trace, and the next program counter
pub data Effect (W : Type 0) : Type 0 where
  -- next program counter
  goes : ℕ → Effect W
  -- register, value, next program counter
  sets : ℕ → W → ℕ → Effect W
  -- address, bytes, value, next program counter
  stores : ℕ → ℕ → W → ℕ → Effect W

-- what the next step would do, with nothing done yet
pub record Attempted (W : Type 0) : Type 0 where
  pub fetched : Fetched
  pub effect : Effect W

-- count values from register i on
unfoldable pub fill : {W : Type 0} → ℕ → ℕ → (ℕ → W) → List W
fill zero i f = []
fill (suc count) i f = f i ∷ fill count (suc i) f

-- register i at the start: x0, x1, x2 and x10 are given, the rest are others
unfoldable pub at_start : {W : Type 0} → W → W → W → W → (ℕ → W) → ℕ → W
at_start x0 x1 x2 x10 others i =
    choose (eqb i 0) (λ _. x0)
    (λ _. choose (eqb i 1) (λ _. x1)
    (λ _. choose (eqb i 2) (λ _. x2)
    (λ _. choose (eqb i 10) (λ _. x10)
    (λ _. others i))))

-- the registers with the one named changed; x0 never changes, and a number past the last changes nothing
unfoldable pub assign : {W : Type 0} → List W → ℕ → W → List W
assign registers zero value = registers
assign registers (suc i) value = set registers (suc i) value

-- Control step: only a store of a whole word, just at the event count's address, records an event's location
unfoldable pub recorded : ℕ → ℕ → ℕ → ℕ → List ℕ → List ℕ
recorded event_count pc address bytes locations =
    choose (eqb bytes 4 && eqb address event_count) (λ _. locations ++ pc ∷ []) (λ _. locations)

-- Scalar run: what every completed step adds
unfoldable pub advanced : {W M : Type 0} → State W M → Fetched → ℕ → List W → M → List ℕ → State W M
advanced s fetched next registers memory locations = record {
  pc = next;
  registers = registers;
  memory = memory;
  steps = suc s.steps;
  trace = s.trace ++ record {
    program_counter = s.pc;
    instruction_word = fetched.word;
    instruction_bytes = fetched.length;
    next_program_counter = next;
  } ∷ [];
  locations = locations;
}

-- the state after a step, by its effect; write stores the low bytes of a value at an address: memory, bytes, address, value
unfoldable pub apply : {W M : Type 0} → (M → ℕ → ℕ → W → M) → ℕ → State W M → Fetched → Effect W → State W M
apply write event_count s fetched (goes next) = advanced s fetched next s.registers s.memory s.locations
apply write event_count s fetched (sets rd value next) =
    advanced s fetched next (assign s.registers rd value) s.memory s.locations
apply write event_count s fetched (stores address bytes value next) =
    advanced s fetched next s.registers (write s.memory bytes address value)
    (recorded event_count s.pc address bytes s.locations)
