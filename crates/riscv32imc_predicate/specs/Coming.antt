-- What comes at a place: stop, the pause, the limit, or a fetched instruction.
use Rattle.std.specs.Prelude.{true, false, List, ◌≡◌, ℕ, ◌<◌, eqb, Err, IfOk, Ok, Result}
use Rattle.riscv_decode.specs.declared.Fetched.{Fetched}
use Rattle.predicate_action.specs.Meaning.{meaning}
use Rattle.predicate_action.specs.Reading.{reading_of, ReadsBelow}
use Rattle.predicate_answer.specs.Refusal.{refusal_of}
use Rattle.predicate_semantics.specs.declared.Rv32SymbolLayout.{Rv32SymbolLayout}
use Rattle.predicate_semantics.specs.Program.{stop}
use Rattle.predicate_semantics.specs.Tested.{passed, refused}
use Rattle.predicate_semantics.specs.Lane.{LaneState, count_of_lanes, memory_of, fetch}
use Rattle.lane_access.specs.Seen.{seen}
use Rattle.riscv32imc_predicate.specs.declared.Bounds.{Bounds}
use Rattle.riscv32imc_predicate.specs.declared.Place.{Place}
use Rattle.riscv32imc_predicate.specs.declared.Ending.{Ending}
use Rattle.riscv32imc_predicate.specs.declared.Ending.TheVariants as ending
use Rattle.riscv32imc_predicate.specs.declared.Progress.{Progress}
use Rattle.riscv32imc_predicate.specs.Setting.{Setting, environment, Serves, register_count, rest}

module _ (c : Setting) where
  -- a fetched instruction, with the run short of stop and of the limit
  pub record Continues (progress : Progress) (s : LaneState) : Type 0 where
    pub moving : eqb s.pc stop ≡ false
    pub below : s.steps < c.limit
    pub instruction : Fetched
    pub fetched : fetch (count_of_lanes c.program c.setup) c.program.core (memory_of c.program c.setup s) s.steps s.pc ≡ passed instruction
    pub same_word : progress.word ≡ (instruction).word
    pub same_length : progress.length ≡ (instruction).length
    pub same_action : progress.action ≡ meaning (instruction).operation s.pc
    pub reads : progress.reading ≡ reading_of progress.action

  -- how a call ends at a state
  abbrev pub Ends : ℕ → Ending → LaneState → Type 0
  Ends pause ending.Arrived s = eqb s.pc stop ≡ true
  Ends pause ending.Paused s = (eqb s.pc stop ≡ false) × (s.steps ≡ pause)
  Ends pause (ending.Refused e) s = rest c s ≡ record { state = s; answer = refused (refusal_of e) }

  -- what comes at a state: a step, or the end
  abbrev pub Comes : ℕ → Result Progress Ending → LaneState → Type 0
  Comes pause (Ok progress) s = Continues progress s
  Comes pause (Err q) s = Ends pause q s

  -- a place in a state whose memory image and rows show
  pub record IsAt (image rows : List ℕ) (place : Place) (s : LaneState) : Type 0 where
    pub at_pc : place.pc ≡ s.pc
    pub at_steps : place.steps ≡ s.steps
    pub shown : memory_of c.program c.setup s ≡ seen image rows

-- what comes at a place, in every state that is there; a step below the limit, which reads places that there are
pub record Readied (image rows : List ℕ) (bounds : Bounds) (place : Place) (r : Result Progress Ending) : Type 0 where
  pub comes : (c : Setting) (symbols : Rv32SymbolLayout) → Serves c (environment image symbols bounds) → (s : LaneState) → IsAt c image rows place s
      → Comes c bounds.pause r s
  pub below : IfOk r (λ progress. place.steps < bounds.limit)
  pub reads : IfOk r (λ progress. ReadsBelow register_count progress.reading)
