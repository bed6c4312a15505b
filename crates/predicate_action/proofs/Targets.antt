-- Where the jumps and branches of operations lead is a number of four bytes. Assumes nothing.
use Prim.Native.Nat.{ℕ, ◌<◌, ◌^◌}
use native.Mathlib.Omega.{arith}
use Rattle.riscv_decode.specs.declared.Operation.{Operation}
use Rattle.riscv_decode.specs.declared.Operation.TheVariants as operation
use Rattle.predicate_action.specs.declared.Action.{Action}
use Rattle.predicate_action.specs.declared.Action.TheVariants.{Nothing, Literal, Compute, ComputeImmediate, Jump, JumpTo, Branch, Load, Store}
use Rattle.predicate_action.specs.Meaning.{meaning}

-- where a jump or a branch leads
abbrev pub Leads : Action → Type 0
Leads Nothing = Unit {0}
Leads (Literal rd v) = Unit {0}
Leads (Compute rd f a b) = Unit {0}
Leads (ComputeImmediate rd f a n) = Unit {0}
Leads (Jump rd to) = to < 2 ^ 32
Leads (JumpTo rd a offset) = Unit {0}
Leads (Branch f a b to) = to < 2 ^ 32
Leads (Load rd a offset n e) = Unit {0}
Leads (Store a b offset n) = Unit {0}

pub meaning_leads : (o : Operation) (pc : ℕ) → Leads (meaning o pc)
unfolding meaning
meaning_leads (operation.Lui v) pc = tt
meaning_leads (operation.Auipc v) pc = tt
meaning_leads (operation.Jal v) pc = omega arith
meaning_leads (operation.Jalr v) pc = tt
meaning_leads (operation.Beq v) pc = omega arith
meaning_leads (operation.Bne v) pc = omega arith
meaning_leads (operation.Blt v) pc = omega arith
meaning_leads (operation.Bge v) pc = omega arith
meaning_leads (operation.Bltu v) pc = omega arith
meaning_leads (operation.Bgeu v) pc = omega arith
meaning_leads (operation.Lb v) pc = tt
meaning_leads (operation.Lh v) pc = tt
meaning_leads (operation.Lw v) pc = tt
meaning_leads (operation.Lbu v) pc = tt
meaning_leads (operation.Lhu v) pc = tt
meaning_leads (operation.Sb v) pc = tt
meaning_leads (operation.Sh v) pc = tt
meaning_leads (operation.Sw v) pc = tt
meaning_leads (operation.Addi v) pc = tt
meaning_leads (operation.Slti v) pc = tt
meaning_leads (operation.Sltiu v) pc = tt
meaning_leads (operation.Xori v) pc = tt
meaning_leads (operation.Ori v) pc = tt
meaning_leads (operation.Andi v) pc = tt
meaning_leads (operation.Slli v) pc = tt
meaning_leads (operation.Srli v) pc = tt
meaning_leads (operation.Srai v) pc = tt
meaning_leads (operation.Add v) pc = tt
meaning_leads (operation.Sub v) pc = tt
meaning_leads (operation.Sll v) pc = tt
meaning_leads (operation.Slt v) pc = tt
meaning_leads (operation.Sltu v) pc = tt
meaning_leads (operation.Xor v) pc = tt
meaning_leads (operation.Srl v) pc = tt
meaning_leads (operation.Sra v) pc = tt
meaning_leads (operation.Or v) pc = tt
meaning_leads (operation.And v) pc = tt
meaning_leads (operation.Mul v) pc = tt
meaning_leads (operation.Div v) pc = tt
meaning_leads (operation.Divu v) pc = tt
meaning_leads (operation.Rem v) pc = tt
meaning_leads (operation.Remu v) pc = tt
meaning_leads operation.Fence pc = tt
meaning_leads operation.FenceI pc = tt
meaning_leads (operation.Mulh v) pc = tt
meaning_leads (operation.Mulhsu v) pc = tt
meaning_leads (operation.Mulhu v) pc = tt
