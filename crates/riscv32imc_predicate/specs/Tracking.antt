-- How the code's values follow a state of the semantics' run.
use Rattle.std.proofs.Math.Option.{some}
use Rattle.std.specs.Prelude.{List, [], ◌∷◌, ◌++◌, ◌≡◌, ℕ, ◌+◌, ◌%◌, ◌^◌, ◌≤◌, ◌<◌, length, get_or, take, replicate, None, Option, Result}
use Rattle.rv32_arithmetic.specs.Arithmetic.{add}
use Rattle.lane_word.specs.declared.LaneWord.{LaneWord}
use Rattle.lane_word.specs.Told.{word_of}
use Rattle.predicate_answer.specs.declared.Rv32Error.{Rv32Error}
use Rattle.predicate_answer.specs.Blank.{max_events}
use Rattle.predicate_semantics.specs.Program.{image_end}
use Rattle.predicate_semantics.specs.State.{recorded}
use Rattle.predicate_semantics.specs.Lane.{LaneState, reg, execute}
use Rattle.predicate_semantics.specs.Lane as Lane
use Rattle.predicate_semantics.specs.Kept.{Kept}
use Rattle.predicate_trace.specs.declared.PredicateControlStep.{PredicateControlStep}
use Rattle.predicate_trace.specs.Trace.{put_entries}
use Rattle.predicate_action.specs.Reading.{reading_of, computed}
use Rattle.lane_memory.specs.Holds.{Holds}
use Rattle.lane_access.specs.Seen.{seen, Above}
use Rattle.riscv32imc_predicate.specs.declared.Place.{Place}
use Rattle.riscv32imc_predicate.specs.declared.Recorded.{Recorded}
use Rattle.riscv32imc_predicate.specs.declared.Ending.{Ending}
use Rattle.riscv32imc_predicate.specs.declared.Registers.{Registers}
use Rattle.riscv32imc_predicate.specs.declared.Progress.{Progress}
use Rattle.riscv32imc_predicate.specs.declared.Step.{Step}
use Rattle.riscv32imc_predicate.specs.declared.Reached.{Reached}
use Rattle.riscv32imc_predicate.specs.Setting.{Setting, Environment, Serves, registers_of}
use Rattle.riscv32imc_predicate.specs.Changes.{decision_of, last_tested, Given, Sources}
use Rattle.riscv32imc_predicate.specs.Coming.{Ends}
use Rattle.riscv32imc_predicate.specs.Register.{Held, blank}
use Rattle.lane_word.specs.declared.UniformError.{UniformError}

-- the first locations are kept, all of them counted
abbrev pub Keeps : Recorded → List ℕ → Type 0
Keeps kept ls = (kept.count ≡ length ls) × (take (length ls) kept.locations ≡ take max_events ls)

-- a place, rows and trace are those of a state that a run can come to
pub record Tracks (c : Setting) (place : Place) (rows trace : List ℕ) (s : LaneState) : Type 0 where
  pub kept : Kept c.program c.setup s
  pub same_pc : place.pc ≡ s.pc
  pub same_steps : place.steps ≡ s.steps
  pub bounded : s.steps ≤ c.limit
  pub holds : Holds rows c.setup.rows s.memory
  pub above : Above (image_end c.program) s.memory
  pub same_written : place.written ≡ length s.memory
  pub traced : trace ≡ put_entries c.lent 0 s.trace

-- ---- a call of the loop

-- what it changes: the place, what is told of the registers' words, the words, event locations, rows and trace
pub record Machine : Type 0 where
  pub place : Place
  pub tags : List (Option ℕ)
  pub words : List LaneWord
  pub noted : Recorded
  pub rows : List ℕ
  pub trace : List ℕ

abbrev pub machine : Place → Registers → Recorded → List ℕ → List ℕ → Machine
machine place registers noted rows trace = record {
  place = place;
  tags = registers.tags;
  words = registers.words;
  noted = noted;
  rows = rows;
  trace = trace;
}

-- the code stands at a state of a setting
pub record Stands (c : Setting) (g : Environment) (m : Machine) (s : LaneState) : Type 0 where
  pub serves : Serves c g
  pub tracks : Tracks c m.place m.rows m.trace s
  pub keeps : Keeps m.noted s.locations
  pub held : Held (registers_of c) m.tags m.words s.registers

-- what a call hands back; x10's word is one of its registers'
abbrev pub reached_with : Place → Ending → Recorded → List LaneWord → List (Option ℕ) → Reached
reached_with place ending noted words tags = record {
  place = place;
  ending = ending;
  recorded = noted;
  words = words;
  tags = tags;
  x10 = word_of (get_or tags 10 None) (get_or words 10 blank);
}

-- where the call ends: some completed steps on, and standing there
pub record Arrives (c : Setting) (g : Environment) (s : LaneState) (r : Reached) (rows trace : List ℕ) : Type 0 where
  pub state : LaneState
  pub taken : ℕ
  pub after : Lane.after c.program c.setup taken s ≡ some state
  pub stands : Stands c g (machine r.place (record { words = r.words; tags = r.tags }) r.recorded rows trace) state
  pub ends : Ends c g.bounds.pause r.ending state
  pub return_word : r.x10 ≡ reg c.program c.setup state 10

-- from every state of every setting at which the code stands when it is called
abbrev pub Advances : Environment → Machine → Reached → List ℕ → List ℕ → Type 0
Advances g m r rows trace = (c : Setting) (s : LaneState) → Stands c g m s → Arrives c g s r rows trace

-- ---- the parts of a step

-- one step on, with some bytes more written
abbrev pub moved_to : Place → ℕ → ℕ → Place
moved_to place next new = record {
  pc = next;
  steps = (place.steps + 1) % 2 ^ 32;
  written = (place.written + new) % 2 ^ 32;
}

-- a step's numbers
abbrev pub entry_by : ℕ → ℕ → ℕ → ℕ → PredicateControlStep
entry_by pc word size next = record { program_counter = pc; instruction_word = word; instruction_bytes = size; next_program_counter = next }

-- a program counter is added to the locations
abbrev pub Added : Recorded → ℕ → Recorded → Type 0
Added kept pc r = (ls : List ℕ) → length ls + 1 < 2 ^ 32 → Keeps kept ls → Keeps r (ls ++ pc ∷ [])

-- the locations after a store
abbrev pub Located : Recorded → ℕ → ℕ → ℕ → ℕ → Recorded → Type 0
Located kept pc address width event_count r =
    (ls : List ℕ) → length ls + 1 < 2 ^ 32 → Keeps kept ls → Keeps r (recorded event_count pc address width ls)

-- a fetched step, in every state that the code is given, comes to the semantics' operation and the last test
abbrev pub Decides : List ℕ → List ℕ → Progress → Place → Result ℕ UniformError → ℕ → Result Step Rv32Error → Type 0
Decides image rows progress place tested entries x =
    (c : Setting) (s : LaneState) → Given c s image rows place.written
    → (left right : LaneWord) → Sources c s progress.action left right tested
    → decision_of (seen image rows) (computed (reading_of progress.action) left right) right x
    ≡ last_tested (execute c.program c.setup s (add place.pc progress.length) progress.action) place.steps entries

-- ---- before any step

-- the place before any step: the stop word's four bytes are written
abbrev pub start_place : ℕ → Place
start_place entry = record { pc = entry; steps = 0; written = 4 }

-- no event yet
abbrev pub start_recorded : Recorded
start_recorded = record { count = 0; locations = replicate max_events 0 }
