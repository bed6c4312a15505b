-- The manual's listing of instructions ("RV32/64G Instruction Set Listings"), in document 01's order (Halfword and word), then MULH, MULHSU and MULHU.
use Rattle.std.specs.Prelude.{Bool, ◌&&◌, List, [], ◌∷◌, ℕ, eqb}
use Rattle.riscv_decode.specs.Operands.{opcode_field, funct3_field, funct7_field, uType, jType, iType, bType, sType, shift_type, rType}
use Rattle.riscv_decode.specs.declared.UType.{UType}
use Rattle.riscv_decode.specs.declared.JType.{JType}
use Rattle.riscv_decode.specs.declared.IType.{IType}
use Rattle.riscv_decode.specs.declared.BType.{BType}
use Rattle.riscv_decode.specs.declared.SType.{SType}
use Rattle.riscv_decode.specs.declared.ShiftType.{ShiftType}
use Rattle.riscv_decode.specs.declared.RType.{RType}
use Rattle.riscv_decode.specs.declared.Operation.{Operation}
use Rattle.riscv_decode.specs.declared.Operation.TheVariants as op

-- a line of the listing by its format: the opcode, the funct3 and the funct7 that it fixes, in this order, and the operation
pub data Line : Type 0 where
  U : ℕ → (UType → Operation) → Line
  J : ℕ → (JType → Operation) → Line
  I : ℕ → ℕ → (IType → Operation) → Line
  B : ℕ → ℕ → (BType → Operation) → Line
  S : ℕ → ℕ → (SType → Operation) → Line
  Shift : ℕ → ℕ → ℕ → (ShiftType → Operation) → Line
  R : ℕ → ℕ → ℕ → (RType → Operation) → Line
  NoOperands : ℕ → ℕ → Operation → Line

-- Halfword and word: how many operations there are
abbrev pub operation_count : ℕ
operation_count = 47

-- their lines: a line's place, counted from 1, is its operation's number. Of FENCE and FENCE.I only opcode and funct3 are fixed
unfoldable pub listing : List Line
listing =
    U 0x37 op.Lui ∷
    U 0x17 op.Auipc ∷
    J 0x6f op.Jal ∷
    I 0x67 0 op.Jalr ∷
    B 0x63 0 op.Beq ∷
    B 0x63 1 op.Bne ∷
    B 0x63 4 op.Blt ∷
    B 0x63 5 op.Bge ∷
    B 0x63 6 op.Bltu ∷
    B 0x63 7 op.Bgeu ∷
    I 0x03 0 op.Lb ∷
    I 0x03 1 op.Lh ∷
    I 0x03 2 op.Lw ∷
    I 0x03 4 op.Lbu ∷
    I 0x03 5 op.Lhu ∷
    S 0x23 0 op.Sb ∷
    S 0x23 1 op.Sh ∷
    S 0x23 2 op.Sw ∷
    I 0x13 0 op.Addi ∷
    I 0x13 2 op.Slti ∷
    I 0x13 3 op.Sltiu ∷
    I 0x13 4 op.Xori ∷
    I 0x13 6 op.Ori ∷
    I 0x13 7 op.Andi ∷
    Shift 0x13 1 0x00 op.Slli ∷
    Shift 0x13 5 0x00 op.Srli ∷
    Shift 0x13 5 0x20 op.Srai ∷
    R 0x33 0 0x00 op.Add ∷
    R 0x33 0 0x20 op.Sub ∷
    R 0x33 1 0x00 op.Sll ∷
    R 0x33 2 0x00 op.Slt ∷
    R 0x33 3 0x00 op.Sltu ∷
    R 0x33 4 0x00 op.Xor ∷
    R 0x33 5 0x00 op.Srl ∷
    R 0x33 5 0x20 op.Sra ∷
    R 0x33 6 0x00 op.Or ∷
    R 0x33 7 0x00 op.And ∷
    R 0x33 0 0x01 op.Mul ∷
    R 0x33 4 0x01 op.Div ∷
    R 0x33 5 0x01 op.Divu ∷
    R 0x33 6 0x01 op.Rem ∷
    R 0x33 7 0x01 op.Remu ∷
    NoOperands 0x0f 0 op.Fence ∷
    NoOperands 0x0f 1 op.FenceI ∷
    R 0x33 1 0x01 op.Mulh ∷
    R 0x33 2 0x01 op.Mulhsu ∷
    R 0x33 3 0x01 op.Mulhu ∷
    []

-- what stands past the listing's end
abbrev pub no_line : Line
no_line = NoOperands 0 0 op.Fence

-- the operation of a line, with the operands that the word has in the line's format
unfoldable pub operation : Line → ℕ → Operation
operation (U opcode o) w = o (uType w)
operation (J opcode o) w = o (jType w)
operation (I opcode funct3 o) w = o (iType w)
operation (B opcode funct3 o) w = o (bType w)
operation (S opcode funct3 o) w = o (sType w)
operation (Shift opcode funct3 funct7 o) w = o (shift_type w)
operation (R opcode funct3 funct7 o) w = o (rType w)
operation (NoOperands opcode funct3 o) w = o

-- what a line asks of a word: the opcode, and the funct3 and the funct7 where its format has them
pub data Fixed : Type 0 where
  Opcode : ℕ → Fixed
  Funct3 : ℕ → ℕ → Fixed
  Funct7 : ℕ → ℕ → ℕ → Fixed

-- what each format fixes
unfoldable pub fixed : Line → Fixed
fixed (U opcode o) = Opcode opcode
fixed (J opcode o) = Opcode opcode
fixed (I opcode funct3 o) = Funct3 opcode funct3
fixed (B opcode funct3 o) = Funct3 opcode funct3
fixed (S opcode funct3 o) = Funct3 opcode funct3
fixed (Shift opcode funct3 funct7 o) = Funct7 opcode funct3 funct7
fixed (R opcode funct3 funct7 o) = Funct7 opcode funct3 funct7
fixed (NoOperands opcode funct3 o) = Funct3 opcode funct3

-- the word has these fields
unfoldable pub has : Fixed → ℕ → Bool
has (Opcode opcode) w = eqb (opcode_field w) opcode
has (Funct3 opcode funct3) w = eqb (opcode_field w) opcode && eqb (funct3_field w) funct3
has (Funct7 opcode funct3 funct7) w =
    eqb (opcode_field w) opcode && eqb (funct3_field w) funct3 && eqb (funct7_field w) funct7
