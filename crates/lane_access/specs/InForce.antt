-- The core in force: what the code fetches by, and of which programs.
use Rattle.std.proofs.Math.Option.{some}
use Rattle.std.specs.Prelude.{◌≡◌, ℕ}
use Rattle.riscv_decode.specs.declared.Operation.{Operation}
use Rattle.predicate_action.specs.Meaning.{meaning}
use Rattle.predicate_action.specs.Reading.{reading_of, ReadsBelow}
use Rattle.predicate_semantics.specs.Program.{Core}

-- after so many completed steps a program's core expands and decodes as the one that the code has
pub record InForce (own core : Core) (steps : ℕ) : Type 0 where
  pub expands : (half : ℕ) → core.expand half ≡ own.expand half
  pub decodes : (word : ℕ) → core.decode steps word ≡ own.decode steps word

-- what a core decodes reads registers that it has, at any program counter
abbrev pub NamesRegisters : Core → Type 0
NamesRegisters core = (steps word at : ℕ) (o : Operation) → core.decode steps word ≡ some o → ReadsBelow core.registers (reading_of (meaning o at))
