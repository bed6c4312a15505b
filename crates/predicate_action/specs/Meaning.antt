-- What each of the 47 operations does, from the manual (RV32I, M and Zifencei): a form that both runs carry out on their own values.
use Rattle.std.specs.Prelude.{ℕ}
use Rattle.rv32_arithmetic.specs.declared.Binary.TheVariants.{Add, Sub, Sll, Slt, Sltu, Xor, Srl, Sra, Or, And, Mul, Mulh, Mulhsu, Mulhu, Div, Divu, Rem, Remu, Eq, Ne, Ge, Geu}
use Rattle.rv32_arithmetic.specs.Arithmetic.{add}
use Rattle.rv32_arithmetic.specs.Bits.{sign_extend}
use Rattle.riscv_decode.specs.declared.Operation.{Operation}
use Rattle.riscv_decode.specs.declared.Operation.TheVariants as operation
use Rattle.predicate_action.specs.declared.Extension.{Extension}
use Rattle.predicate_action.specs.declared.Extension.TheVariants as extension
use Rattle.predicate_action.specs.declared.Action.{Action}
use Rattle.predicate_action.specs.declared.Action.TheVariants.{Nothing, Literal, Compute, ComputeImmediate, Jump, JumpTo, Branch, Load, Store}

-- how a load fills the word: LB and LH by the sign, LW, LBU and LHU by zeros
abbrev pub extension_of : Extension → ℕ → ℕ
extension_of extension.Byte v = sign_extend v 8
extension_of extension.Halfword v = sign_extend v 16
extension_of extension.Unchanged v = v

-- an operation at a program counter
unfoldable pub meaning : Operation → ℕ → Action
meaning (operation.Lui v) pc = Literal v.rd v.imm
meaning (operation.Auipc v) pc = Literal v.rd (add pc v.imm)
meaning (operation.Jal v) pc = Jump v.rd (add pc v.imm)
meaning (operation.Jalr v) pc = JumpTo v.rd v.rs1 v.imm
meaning (operation.Beq v) pc = Branch Eq v.rs1 v.rs2 (add pc v.imm)
meaning (operation.Bne v) pc = Branch Ne v.rs1 v.rs2 (add pc v.imm)
meaning (operation.Blt v) pc = Branch Slt v.rs1 v.rs2 (add pc v.imm)
meaning (operation.Bge v) pc = Branch Ge v.rs1 v.rs2 (add pc v.imm)
meaning (operation.Bltu v) pc = Branch Sltu v.rs1 v.rs2 (add pc v.imm)
meaning (operation.Bgeu v) pc = Branch Geu v.rs1 v.rs2 (add pc v.imm)
meaning (operation.Lb v) pc = Load v.rd v.rs1 v.imm 1 extension.Byte
meaning (operation.Lh v) pc = Load v.rd v.rs1 v.imm 2 extension.Halfword
meaning (operation.Lw v) pc = Load v.rd v.rs1 v.imm 4 extension.Unchanged
meaning (operation.Lbu v) pc = Load v.rd v.rs1 v.imm 1 extension.Unchanged
meaning (operation.Lhu v) pc = Load v.rd v.rs1 v.imm 2 extension.Unchanged
meaning (operation.Sb v) pc = Store v.rs1 v.rs2 v.imm 1
meaning (operation.Sh v) pc = Store v.rs1 v.rs2 v.imm 2
meaning (operation.Sw v) pc = Store v.rs1 v.rs2 v.imm 4
meaning (operation.Addi v) pc = ComputeImmediate v.rd Add v.rs1 v.imm
meaning (operation.Slti v) pc = ComputeImmediate v.rd Slt v.rs1 v.imm
meaning (operation.Sltiu v) pc = ComputeImmediate v.rd Sltu v.rs1 v.imm
meaning (operation.Xori v) pc = ComputeImmediate v.rd Xor v.rs1 v.imm
meaning (operation.Ori v) pc = ComputeImmediate v.rd Or v.rs1 v.imm
meaning (operation.Andi v) pc = ComputeImmediate v.rd And v.rs1 v.imm
meaning (operation.Slli v) pc = ComputeImmediate v.rd Sll v.rs1 v.shamt
meaning (operation.Srli v) pc = ComputeImmediate v.rd Srl v.rs1 v.shamt
meaning (operation.Srai v) pc = ComputeImmediate v.rd Sra v.rs1 v.shamt
meaning (operation.Add v) pc = Compute v.rd Add v.rs1 v.rs2
meaning (operation.Sub v) pc = Compute v.rd Sub v.rs1 v.rs2
meaning (operation.Sll v) pc = Compute v.rd Sll v.rs1 v.rs2
meaning (operation.Slt v) pc = Compute v.rd Slt v.rs1 v.rs2
meaning (operation.Sltu v) pc = Compute v.rd Sltu v.rs1 v.rs2
meaning (operation.Xor v) pc = Compute v.rd Xor v.rs1 v.rs2
meaning (operation.Srl v) pc = Compute v.rd Srl v.rs1 v.rs2
meaning (operation.Sra v) pc = Compute v.rd Sra v.rs1 v.rs2
meaning (operation.Or v) pc = Compute v.rd Or v.rs1 v.rs2
meaning (operation.And v) pc = Compute v.rd And v.rs1 v.rs2
meaning (operation.Mul v) pc = Compute v.rd Mul v.rs1 v.rs2
meaning (operation.Div v) pc = Compute v.rd Div v.rs1 v.rs2
meaning (operation.Divu v) pc = Compute v.rd Divu v.rs1 v.rs2
meaning (operation.Rem v) pc = Compute v.rd Rem v.rs1 v.rs2
meaning (operation.Remu v) pc = Compute v.rd Remu v.rs1 v.rs2
meaning operation.Fence pc = Nothing
meaning operation.FenceI pc = Nothing
meaning (operation.Mulh v) pc = Compute v.rd Mulh v.rs1 v.rs2
meaning (operation.Mulhsu v) pc = Compute v.rd Mulhsu v.rs1 v.rs2
meaning (operation.Mulhu v) pc = Compute v.rd Mulhu v.rs1 v.rs2
