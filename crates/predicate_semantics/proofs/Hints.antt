-- A hint's step only advances. Assumes nothing.
use Rattle.std.specs.Prelude.{None, Some}
use mathlib.Core.Bool.{Bool, true, false, ◌||◌}
use mathlib.Core.Option.{Option, some}
use mathlib.Core.Path.{◌≡◌, refl}
use Prim.Native.Nat.{ℕ, ◌%◌, ◌<◌}
use native.Mathlib.Omega.{arith}
use borrow.Author.Tests.{eqb-true}
use lib.Dec.{T, eqb, ltb, eqb→eq}
use lib.Ieee.Fits.{and_l, and_r}
use lib.ListN.{length, get_or}
use Rattle.rv32_arithmetic.specs.Arithmetic.{add}
use Rattle.rv32_arithmetic.specs.Bits.{slice}
use Rattle.rv32_arithmetic.specs.declared.Binary.{Binary}
use Rattle.rv32_arithmetic.specs.declared.Binary.TheVariants.{Add, Sll}
use Rattle.rv32_arithmetic.specs.Value.{value_of}
use Rattle.riscv32imc.specs.Expansion.{expand}
use Rattle.riscv32imc.specs.Hints.{writes_x0}
use Rattle.riscv32imc.proofs.Hints.{hints_expand}
use Rattle.riscv_decode.specs.declared.Operation.{Operation}
use Rattle.riscv_decode.specs.Operands.{rs1_field, rs2_field, iImmediate, uImmediate}
use Rattle.riscv_decode.specs.Listing.{no_line, Opcode, Funct3, Funct7, listing, operation, fixed, has}
use Rattle.riscv_decode.specs.Decode.{decode_of}
use Rattle.riscv_decode.proofs.Listed.{accepted}
use Rattle.lane_word.specs.declared.LaneWord.{LaneWord}
use Rattle.lane_word.specs.Word.{constant, binary}
use Rattle.predicate_action.specs.declared.Action.{Action}
use Rattle.predicate_action.specs.declared.Action.TheVariants.{Literal, Compute, ComputeImmediate}
use Rattle.predicate_action.specs.Meaning.{meaning}
use Rattle.predicate_semantics.specs.Choice.{choose}
use Rattle.predicate_semantics.specs.Program.{Program}
use Rattle.predicate_semantics.specs.State.{sets, assign, advanced, apply}
use Rattle.predicate_semantics.specs.Standing.{expanded_word, decoded_operation, standing_core, program_of}
use Rattle.predicate_semantics.specs.Tested.{passed, found, require, ◌>>=◌}
use Rattle.predicate_semantics.specs.Scalar as Scalar
use Rattle.predicate_semantics.specs.Lane as Lane
use Rattle.predicate_semantics.specs.Hints.{past, HintsOnlyAdvance}

-- a value that is computed with no test, and that x0 discards
data Discarded : Type 0 where
  literal : ℕ → Discarded
  immediate : Binary → ℕ → ℕ → Discarded
  registers : Binary → ℕ → ℕ → Discarded

into_x0 : Discarded → Action
into_x0 (literal v) = Literal 0 v
into_x0 (immediate f a n) = ComputeImmediate 0 f a n
into_x0 (registers f a b) = Compute 0 f a b

-- what a word decodes to, where x0 discards its value
record Discards (d : Option Operation) : Type 0 where
  decoded : Operation
  value : Discarded
  decodes : d ≡ some decoded
  means : (pc : ℕ) → meaning decoded pc ≡ into_x0 value

lane_value : (p : Program) (l : Lane.Setup) (s : Lane.LaneState) (next : ℕ) (v : Discarded) → (w : LaneWord) × (Lane.execute p l s next (into_x0 v) ≡ passed (sets 0 w next))
unfolding into_x0 Lane.execute
lane_value p l s next (literal n) = (constant (Lane.count_of_lanes p l) n, refl)
lane_value p l s next (immediate f a n) = (binary (value_of f) (Lane.reg p l s a) (constant (Lane.count_of_lanes p l) n), refl)
lane_value p l s next (registers f a b) = (binary (value_of f) (Lane.reg p l s a) (Lane.reg p l s b), refl)

scalar_value : (p : Program) (s : Scalar.ScalarState) (next : ℕ) (v : Discarded) → (w : ℕ) × (Scalar.execute p s next (into_x0 v) ≡ some (sets 0 w next))
unfolding into_x0 Scalar.execute
scalar_value p s next (literal n) = (n, refl)
scalar_value p s next (immediate f a n) = (value_of f (Scalar.reg s a) n, refl)
scalar_value p s next (registers f a b) = (value_of f (Scalar.reg s a) (Scalar.reg s b), refl)

-- a halfword that a core expands to such a word
module _ (p : Program) (half word : ℕ) (two : eqb (half % 4) 3 ≡ false) (x : p.core.expand half ≡ some word)
    (discards : (steps : ℕ) → Discards (p.core.decode steps word)) where
  lane_advances : (l : Lane.Setup) (s : Lane.LaneState) → Lane.access_agreed (Lane.count_of_lanes p l) 1 (Lane.memory_of p l s) 2 s.pc ≡ passed half
      → Lane.step p l s ≡ (require 14 (ltb s.steps l.entries) >>= λ _. passed (past word s))
  unfolding Lane.step Lane.attempt Lane.fetch Lane.expand_halfword Lane.decode_word ◌>>=◌ found choose assign advanced apply past
  lane_advances l s a =
      let d = discards s.steps in
      rw (a, two, x, d.decodes, d.means s.pc, (lane_value p l s (add s.pc 2) d.value).1)

  scalar_advances : (s : Scalar.ScalarState) → Scalar.access s.memory 2 s.pc ≡ some half → Scalar.step p s ≡ some (past word s)
  unfolding Scalar.step Scalar.attempt Scalar.fetch Scalar.expand_halfword Scalar.decode_word Scalar.◌>>=◌ choose assign advanced apply past
  scalar_advances s a =
      let d = discards s.steps in
      rw (a, two, x, d.decodes, d.means s.pc, (scalar_value p s (add s.pc 2) d.value).1)

-- which of four tests is passed
one_of : {P : Type 0} (a b c d : Bool) → T (a || b || c || d) → (T a → P) → (T b → P) → (T c → P) → (T d → P) → P
one_of true b c d t f g h k = f tt
one_of false true c d t f g h k = g tt
one_of false false true d t f g h k = h tt
one_of false false false d t f g h k = k t

-- by the place of the word's line in the listing
of_line : (w i : ℕ) (v : Discarded) → i < length listing → T (has (fixed (get_or listing i no_line)) w)
    → ((pc : ℕ) → meaning (operation (get_or listing i no_line) w) pc ≡ into_x0 v) → Discards (decoded_operation (decode_of w))
unfolding decoded_operation
of_line w i v h t m = record { decoded = operation (get_or listing i no_line) w; value = v; decodes = rw (accepted i w h t); means = m }

writes_decodes : (w : ℕ) → T (writes_x0 w) → Discards (decoded_operation (decode_of w))
unfolding writes_x0 listing fixed operation has meaning into_x0
writes_decodes w t =
    let z : slice w 11 7 ≡ 0 = eqb→eq (slice w 11 7) 0 (and_l (eqb (slice w 11 7) 0) _ t) in
    one_of (has (Opcode 0x37) w) (has (Funct3 0x13 0) w) (has (Funct7 0x13 1 0) w) (has (Funct7 0x33 0 0) w) (and_r (eqb (slice w 11 7) 0) _ t)
    (λ lui. of_line w 0 (literal (uImmediate w)) (omega arith) lui (λ pc. rw z))
    (λ addi. of_line w 18 (immediate Add (rs1_field w) (iImmediate w)) (omega arith) addi (λ pc. rw z))
    (λ slli. of_line w 24 (immediate Sll (rs1_field w) (rs2_field w)) (omega arith) slli (λ pc. rw z))
    (λ adds. of_line w 27 (registers Add (rs1_field w) (rs2_field w)) (omega arith) adds (λ pc. rw z))

-- what expands is of two bytes
expands_two : (h w : ℕ) → expand h ≡ Some w → eqb (h % 4) 3 ≡ false
unfolding expand
expands_two h w e = go (eqb (h % 4) 3) refl
  where
    go : (b : Bool) → eqb (h % 4) 3 ≡ b → eqb (h % 4) 3 ≡ false
    go false q = q
    go true q = let z : None ≡ Some w = rw (eqb-true (h % 4) 3 q) at e in let y : ◌≡◌ {A = ℕ} 0 1 = cc in absurd (omega arith)

pub hints_only_advance : HintsOnlyAdvance
unfolding program_of standing_core expanded_word
hints_only_advance image program half b t =
    let x = hints_expand half b t in
    let two = expands_two half x.0 x.1 in
    let discards = writes_decodes x.0 x.2 in (
      x.0,
      x.1,
      record {
        lanes = lane_advances (program_of image program) half x.0 two (rw x.1) (λ _. discards);
        scalar = scalar_advances (program_of image program) half x.0 two (rw x.1) (λ _. discards);
      },
    )
