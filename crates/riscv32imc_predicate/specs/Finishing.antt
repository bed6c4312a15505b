-- What the code answers at stop, in the semantics.
use Rattle.std.specs.Prelude.{List, ◌≡◌, ℕ, length, Err, Ok, Result}
use Rattle.little_endian.specs.Lent.{over}
use Rattle.lane_word.specs.declared.LaneWord.{LaneWord}
use Rattle.lane_word.specs.Word.{lanes}
use Rattle.predicate_answer.specs.declared.CompiledMmioEvent.{CompiledMmioEvent}
use Rattle.predicate_semantics.specs.declared.Rv32SymbolLayout.{Rv32SymbolLayout}
use Rattle.predicate_semantics.specs.State.{RunResult}
use Rattle.predicate_semantics.specs.Tested.{Tested, passed, refused}
use Rattle.predicate_semantics.specs.Lane.{LaneState, memory_of, reg, events, finish}
use Rattle.predicate_answer.specs.Blank.{no_events}
use Rattle.predicate_answer.specs.declared.Rv32Error.{Rv32Error}
use Rattle.lane_access.specs.Seen.{seen}
use Rattle.predicate_answer.specs.Refusal.{refusal_of}
use Rattle.riscv32imc_predicate.specs.declared.Recorded.{Recorded}
use Rattle.riscv32imc_predicate.specs.declared.finish.Finished.{Finished}
use Rattle.riscv32imc_predicate.specs.Setting.{Setting}
use Rattle.riscv32imc_predicate.specs.Tracking.{Keeps}

-- the lanes' events that lie from an address on, in memory as image and rows show it
abbrev pub events_seen : List ℕ → List ℕ → ℕ → ℕ → List CompiledMmioEvent → List ℕ → Tested (List CompiledMmioEvent)
events_seen image rows from i done locations = events lanes from (seen image rows) i done locations

-- the events that were found, zeros after the last
abbrev pub Finds : Result (List CompiledMmioEvent) Rv32Error → Tested (List CompiledMmioEvent) → Type 0
Finds (Ok es) t = (found : List CompiledMmioEvent) × (t ≡ passed found) × (es ≡ over found no_events)
Finds (Err x) t = t ≡ refused (refusal_of x)

-- the answer at a state: its return value and its events
abbrev pub Answers : Result Finished Rv32Error → LaneState → Tested RunResult → Type 0
Answers (Ok r) s t =
    (found : List CompiledMmioEvent)
    × (t ≡ passed (record { return_value = r.return_value; steps = s.steps; trace = s.trace; events = found }))
    × (r.events ≡ over found no_events)
Answers (Err x) s t = t ≡ refused (refusal_of x)

-- a state of the semantics that the code is at: memory as image and rows show it, the number of locations and the first of them
pub record StandsAt (image : List ℕ) (symbols : Rv32SymbolLayout) (rows : List ℕ) (kept : Recorded) (c : Setting) (s : LaneState) : Type 0 where
  pub same_lanes : length c.setup.inputs ≡ lanes
  pub same_symbols : c.program.symbols ≡ symbols
  pub same_bytes : memory_of c.program c.setup s ≡ seen image rows
  pub keeps : Keeps kept s.locations

-- the answer in every state that the code can be at
abbrev pub Finishes : List ℕ → Rv32SymbolLayout → List ℕ → Recorded → LaneWord → Result Finished Rv32Error → Type 0
Finishes image symbols rows kept x10 r =
    (c : Setting) (s : LaneState) → StandsAt image symbols rows kept c s → reg c.program c.setup s 10 ≡ x10
    → Answers r s (finish c.program c.setup s)
