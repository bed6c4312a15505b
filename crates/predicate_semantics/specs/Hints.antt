-- Control step: what is claimed of a hint's step, in both runs and from every state: it only advances.
use Rattle.std.proofs.Math.Option.{some}
use Rattle.std.specs.Prelude.{◌≡◌, List, [], ◌∷◌, ◌++◌, ℕ, suc, ◌^◌, ◌<◌, T, ltb, Some}
use Rattle.rv32_arithmetic.specs.Arithmetic.{add}
use Rattle.riscv32imc.specs.Expansion.{expand}
use Rattle.riscv32imc.specs.Hints.{hint}
use Rattle.predicate_semantics.specs.declared.Rv32Program.{Rv32Program}
use Rattle.predicate_semantics.specs.State.{State}
use Rattle.predicate_semantics.specs.Standing.{program_of}
use Rattle.predicate_semantics.specs.Tested.{passed, require, ◌>>=◌}
use Rattle.predicate_semantics.specs.Scalar as Scalar
use Rattle.predicate_semantics.specs.Lane as Lane

-- a state and the step past a halfword that expands to a word: two bytes on, one step more with its trace entry, and nothing else changed
unfoldable pub past : {W M : Type 0} → ℕ → State W M → State W M
past word s = record {
  pc = add s.pc 2;
  registers = s.registers;
  memory = s.memory;
  steps = suc s.steps;
  trace = s.trace ++ record {
    program_counter = s.pc;
    instruction_word = word;
    instruction_bytes = 2;
    next_program_counter = add s.pc 2;
  } ∷ [];
  locations = s.locations;
}

-- where the next instruction is a halfword that expands to a word, the step only advances, whatever registers hold and whether or not lanes know it;
-- the lane run needs a trace entry for it, as for every step
pub record OnlyAdvances (image : List ℕ) (program : Rv32Program) (half word : ℕ) : Type 0 where
  pub lanes : (l : Lane.Setup) (s : Lane.LaneState)
      → Lane.access_agreed (Lane.count_of_lanes (program_of image program) l) 1 (Lane.memory_of (program_of image program) l s) 2 s.pc ≡ passed half
      → Lane.step (program_of image program) l s ≡ (require 14 (ltb s.steps l.entries) >>= λ _. passed (past word s))
  pub scalar : (s : Scalar.ScalarState)
      → Scalar.access s.memory 2 s.pc ≡ some half
      → Scalar.step (program_of image program) s ≡ some (past word s)

-- each hint does so, in every image
abbrev pub HintsOnlyAdvance : Type 0
HintsOnlyAdvance =
    (image : List ℕ) (program : Rv32Program) (half : ℕ) → half < 2 ^ 16 → T (hint half)
    → (word : ℕ) × (expand half ≡ Some word) × OnlyAdvances image program half word
