-- The operands of a word in each of the manual's formats ("Base Instruction Formats", "Immediate Encoding Variants").
use Rattle.std.specs.Prelude.{ℕ, ◌+◌, ◌*◌, ◌^◌}
use Rattle.rv32_arithmetic.specs.Bits.{slice, sign_extend}
use Rattle.riscv_decode.specs.declared.UType.{UType}
use Rattle.riscv_decode.specs.declared.JType.{JType}
use Rattle.riscv_decode.specs.declared.IType.{IType}
use Rattle.riscv_decode.specs.declared.BType.{BType}
use Rattle.riscv_decode.specs.declared.SType.{SType}
use Rattle.riscv_decode.specs.declared.ShiftType.{ShiftType}
use Rattle.riscv_decode.specs.declared.RType.{RType}

-- the fields that several formats share, where the figure of formats has them
abbrev pub opcode_field : ℕ → ℕ
opcode_field w = slice w 6 0

abbrev pub rd_field : ℕ → ℕ
rd_field w = slice w 11 7

abbrev pub funct3_field : ℕ → ℕ
funct3_field w = slice w 14 12

abbrev pub rs1_field : ℕ → ℕ
rs1_field w = slice w 19 15

abbrev pub rs2_field : ℕ → ℕ
rs2_field w = slice w 24 20

abbrev pub funct7_field : ℕ → ℕ
funct7_field w = slice w 31 25

-- the figure of immediates: each piece of the word at its place in the immediate
abbrev pub iImmediate : ℕ → ℕ
iImmediate w = sign_extend (slice w 31 20) 12

abbrev pub sImmediate : ℕ → ℕ
sImmediate w = sign_extend (slice w 31 25 * 2 ^ 5 + slice w 11 7) 12

abbrev pub bImmediate : ℕ → ℕ
bImmediate w =
    sign_extend (slice w 31 31 * 2 ^ 12 + slice w 7 7 * 2 ^ 11 + slice w 30 25 * 2 ^ 5 + slice w 11 8 * 2 ^ 1) 13

abbrev pub uImmediate : ℕ → ℕ
uImmediate w = slice w 31 12 * 2 ^ 12

abbrev pub jImmediate : ℕ → ℕ
jImmediate w =
    sign_extend (slice w 31 31 * 2 ^ 20 + slice w 19 12 * 2 ^ 12 + slice w 20 20 * 2 ^ 11 + slice w 30 21 * 2 ^ 1) 21

-- the figure of formats; shifts by a constant are I-type words with the amount where R-type has rs2
abbrev pub uType : ℕ → UType
uType w = record { rd = rd_field w; imm = uImmediate w }

abbrev pub jType : ℕ → JType
jType w = record { rd = rd_field w; imm = jImmediate w }

abbrev pub iType : ℕ → IType
iType w = record { rd = rd_field w; rs1 = rs1_field w; imm = iImmediate w }

abbrev pub bType : ℕ → BType
bType w = record { rs1 = rs1_field w; rs2 = rs2_field w; imm = bImmediate w }

abbrev pub sType : ℕ → SType
sType w = record { rs1 = rs1_field w; rs2 = rs2_field w; imm = sImmediate w }

abbrev pub shift_type : ℕ → ShiftType
shift_type w = record { rd = rd_field w; rs1 = rs1_field w; shamt = rs2_field w }

abbrev pub rType : ℕ → RType
rType w = record { rd = rd_field w; rs1 = rs1_field w; rs2 = rs2_field w }
