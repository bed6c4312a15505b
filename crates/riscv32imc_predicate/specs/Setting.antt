-- What a run is given, as one value: everything that the code tracks is stated over it.
use Rattle.std.specs.Prelude.{List, ◌≡◌, ℕ, ◌-◌, ◌^◌, ◌≤◌, ◌<◌, length}
use Rattle.lane_word.specs.Word.{lanes}
use Rattle.predicate_semantics.specs.declared.Rv32SymbolLayout.{Rv32SymbolLayout}
use Rattle.predicate_semantics.specs.Program.{Core, Program}
use Rattle.predicate_semantics.specs.Standing.{standing_core}
use Rattle.predicate_semantics.specs.Lane.{LaneState, Setup, Ended, run, begin}
use Rattle.lane_access.specs.InForce.{InForce, NamesRegisters}
use Rattle.riscv32imc_predicate.specs.declared.Bounds.{Bounds}

-- a program, its inputs and lent space, the most steps, and the lent trace before any step
pub record Setting : Type 0 where
  pub program : Program
  pub setup : Setup
  pub limit : ℕ
  pub lent : List ℕ

-- how many registers it has
abbrev pub registers_of : Setting → ℕ
registers_of c = c.program.core.registers

-- the state before any step
abbrev pub first_state : Setting → LaneState
first_state c = begin c.program c.setup

-- the rest of the run from a state
abbrev pub rest : Setting → LaneState → Ended
rest c s = run c.program c.setup (c.limit - s.steps) s

-- the places that the code has for registers
abbrev pub register_count : ℕ
register_count = 32

-- the core that the code has
abbrev pub core_in_force : Core
core_in_force = standing_core

-- what a call of the loop is given and does not change
pub record Environment : Type 0 where
  pub core : Core
  pub image : List ℕ
  pub symbols : Rv32SymbolLayout
  pub bounds : Bounds

abbrev pub environment : List ℕ → Rv32SymbolLayout → Bounds → Environment
environment image symbols bounds = record { core = core_in_force; image = image; symbols = symbols; bounds = bounds }

-- that is a setting's: its image and symbols, its limit and entries, words of as many lanes as inputs, its core in force after any
-- number of steps, and registers that the code has places for
pub record Serves (c : Setting) (g : Environment) : Type 0 where
  pub same_image : c.program.image ≡ g.image
  pub same_symbols : c.program.symbols ≡ g.symbols
  pub same_limit : c.limit ≡ g.bounds.limit
  pub small_limit : c.limit < 2 ^ 32
  pub same_entries : c.setup.entries ≡ g.bounds.entries
  pub same_lanes : length c.setup.inputs ≡ lanes
  pub in_force : (steps : ℕ) → InForce g.core c.program.core steps
  pub names : NamesRegisters c.program.core
  -- the return value's among them
  pub least_registers : 10 < registers_of c
  pub most_registers : registers_of c ≤ register_count
