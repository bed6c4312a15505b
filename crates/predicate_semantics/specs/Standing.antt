-- The program of a call: the manual's table, 32 registers, and the bound on its scalar run.
use Rattle.std.proofs.Math.Option as Math
use Rattle.std.proofs.Math.Option.{none, some}
use Rattle.std.specs.Prelude.{List, ℕ, None, Option, Some}
use Rattle.riscv32imc.specs.Constants.{max_steps}
use Rattle.riscv32imc.specs.Expansion.{expand}
use Rattle.riscv_decode.specs.declared.Operation.{Operation}
use Rattle.riscv_decode.specs.Decode.{decode_of}
use Rattle.predicate_semantics.specs.declared.Rv32Program.{Rv32Program}
use Rattle.predicate_semantics.specs.Program.{Core, Program}
use Rattle.predicate_semantics.specs.State.{RunResult}
use Rattle.predicate_semantics.specs.Scalar.{scalar_run}

-- what a halfword expands to, if it is not refused
unfoldable pub expanded_word : Option ℕ → Math.Option ℕ
expanded_word (Some w) = some w
expanded_word None = none

-- what a word decodes to, if it is not refused
unfoldable pub decoded_operation : Option Operation → Math.Option Operation
decoded_operation (Some o) = some o
decoded_operation None = none

-- one table for the whole run
unfoldable pub standing_core : Core
standing_core = record { expand = λ h. expanded_word (expand h); decode = λ steps w. decoded_operation (decode_of w); registers = 32 }

-- what is run of an image
unfoldable pub program_of : List ℕ → Rv32Program → Program
program_of image program = record { core = standing_core; image = image; symbols = program.symbols }

-- what the scalar run of one input answers; others gives the registers that are not set
unfoldable pub scalar_answer : List ℕ → Rv32Program → ℕ → (ℕ → ℕ) → Math.Option RunResult
scalar_answer image program input others = scalar_run (program_of image program) max_steps input others
