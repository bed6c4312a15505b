-- What an action reads: its sources, and the lane word that it computes of them, which is its result or what is tested of it.
use Rattle.std.specs.Prelude.{ℕ, ◌<◌, None, Some}
use Rattle.rv32_arithmetic.specs.declared.Binary.{Binary}
use Rattle.rv32_arithmetic.specs.declared.Binary.TheVariants.{Add, Target}
use Rattle.rv32_arithmetic.specs.Value.{value_of}
use Rattle.lane_word.specs.declared.LaneWord.{LaneWord}
use Rattle.lane_word.specs.Word.{binary}
use Rattle.lane_word.specs.Told.{word_of}
use Rattle.predicate_action.specs.declared.Action.{Action}
use Rattle.predicate_action.specs.declared.Action.TheVariants.{Nothing, Literal, Compute, ComputeImmediate, Jump, JumpTo, Branch, Load, Store}
use Rattle.predicate_action.specs.declared.Reading.{Reading}

-- a function of both sources
abbrev pub of_sources : Binary → ℕ → ℕ → Reading
of_sources f a b = record { rs1 = a; rs2 = b; function = f; immediate = None }

-- a function of the first source and a number
abbrev pub with_number : Binary → ℕ → ℕ → ℕ → Reading
with_number f a b n = record { rs1 = a; rs2 = b; function = f; immediate = Some n }

-- a result, the test of a branch, the target of a jump, the address of a load or a store; 0 for a source that it has not
abbrev pub reading_of : Action → Reading
reading_of Nothing = with_number Add 0 0 0
reading_of (Literal rd v) = with_number Add 0 0 0
reading_of (Compute rd f a b) = of_sources f a b
reading_of (ComputeImmediate rd f a n) = with_number f a 0 n
reading_of (Jump rd to) = with_number Add 0 0 0
reading_of (JumpTo rd a offset) = with_number Target a 0 offset
reading_of (Branch test a b to) = of_sources test a b
reading_of (Load rd a offset n e) = with_number Add a 0 offset
reading_of (Store a b offset n) = with_number Add a b offset

-- both sources are among the first n registers
abbrev pub ReadsBelow : ℕ → Reading → Type 0
ReadsBelow n r = (r.rs1 < n) × (r.rs2 < n)

-- the second operand, where the second source's word is w
abbrev pub operand_of : Reading → LaneWord → LaneWord
operand_of r w = word_of r.immediate w

-- lane by lane
abbrev pub computed : Reading → LaneWord → LaneWord → LaneWord
computed r left right = binary (value_of r.function) left (operand_of r right)
