-- What every step of a lane run keeps of its state, once the run has started.
use Rattle.std.specs.Prelude.{◌≡◌, List, [], ◌∷◌, ℕ, ◌+◌, ◌≤◌, ◌<◌, ◌^◌, eqb, ltb, length}
use Rattle.rv32_arithmetic.specs.Arithmetic.{flag}
use Rattle.riscv32imc.specs.Constants.{max_image_bytes}
use Rattle.predicate_semantics.specs.Program.{Program, memory_end, image_end}
use Rattle.predicate_semantics.specs.Memory.{Written}
use Rattle.predicate_semantics.specs.Lane.{LaneState, Setup}
use Rattle.predicate_semantics.specs.RecordRules.{Chain, Words, ExpandsToWords}

-- the sum of a weight over the written addresses
abbrev pub total : (ℕ → ℕ) → List Written → ℕ
total q [] = 0
total q (w ∷ ws) = q w.address + total q ws

-- how often an address is written, and how many written addresses lie below one
abbrev pub occurs : ℕ → List Written → ℕ
occurs x ws = total (λ a. flag (eqb a x)) ws

abbrev pub below : ℕ → List Written → ℕ
below x ws = total (λ a. flag (ltb a x)) ws

-- each address is written once, and lies from low up to below high
pub record Distinct (low high : ℕ) (ws : List Written) : Type 0 where
  pub once : (x : ℕ) → occurs x ws ≤ 1
  pub above : below low ws ≡ 0
  pub under : below high ws ≡ total (λ _. 1) ws

module _ (p : Program) (l : Setup) where
  -- no refusal 1
  abbrev pub Sized : Type 0
  Sized = (0 < length p.image) × (length p.image ≤ max_image_bytes)

  -- written bytes past the image, in memory, stop's among them, and no more than there are rows
  pub record Stored (ws : List Written) : Type 0 where
    pub least : 4 ≤ length ws
    pub most : length ws ≤ l.rows
    pub distinct : Distinct (image_end p) memory_end ws

  -- the trace of every run
  pub record Traced (s : LaneState) : Type 0 where
    pub counted : length s.trace ≡ s.steps
    pub entered : s.steps ≤ l.entries
    pub chained : Chain p.symbols.entry s.trace s.pc
    pub words : ExpandsToWords p.core → Words s.trace

  -- what every step keeps, once a run has started
  pub record Kept (s : LaneState) : Type 0 where
    pub fits : Sized
    pub small : s.pc < 2 ^ 32
    pub traced : Traced s
    pub stored : Stored s.memory
    -- at most one location for a step
    pub located : length s.locations ≤ s.steps
