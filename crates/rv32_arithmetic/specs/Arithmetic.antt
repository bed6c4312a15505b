-- What each operation computes of 32-bit values (the manual's RV32I and M chapters).
use Rattle.std.specs.Prelude.{ℕ, ◌+◌, ◌-◌, ◌*◌, ◌/◌, ◌%◌, ◌^◌, Bool, cond, not, ℤ, pos, ◌*ℤ◌, ◌==◌, bit_and, bit_or, bit_xor, int_div, int_lt, int_rem, nat_lt}
use Rattle.std.specs.Int.Signed.{shr_z}
use Rattle.std.specs.Int.{w32, w64}
use Rattle.std.proofs.Common.{to_z, of_z}

-- a word read as a two's complement number
abbrev pub signed : ℕ → ℤ
signed x = to_z w32 x

-- the word of such a number
abbrev pub unsigned : ℤ → ℕ
unsigned z = of_z w32 z

-- a test's value in a register
abbrev pub flag : Bool → ℕ
flag t = cond t 1 0

-- ADD, ADDI: the low 32 bits of the sum
abbrev pub add : ℕ → ℕ → ℕ
add a b = (a + b) % 2 ^ 32

-- SUB: the low 32 bits of the difference
abbrev pub sub : ℕ → ℕ → ℕ
sub a b = (a + (2 ^ 32 - b)) % 2 ^ 32

-- SLL, SLLI: by the low five bits of the second operand
abbrev pub sll : ℕ → ℕ → ℕ
sll a b = a * 2 ^ (b % 32) % 2 ^ 32

-- SRL, SRLI: likewise
abbrev pub srl : ℕ → ℕ → ℕ
srl a b = a / 2 ^ (b % 32)

-- SRA, SRAI: likewise, of the signed number
abbrev pub sra : ℕ → ℕ → ℕ
sra a b = unsigned (shr_z (signed a) (2 ^ (b % 32)))

-- SLT, SLTI, BLT: signed less than
abbrev pub slt : ℕ → ℕ → ℕ
slt a b = flag (int_lt (signed a) (signed b))

-- SLTU, SLTIU, BLTU: unsigned less than
abbrev pub sltu : ℕ → ℕ → ℕ
sltu a b = flag (nat_lt a b)

-- AND, ANDI
abbrev pub and : ℕ → ℕ → ℕ
and a b = bit_and a b

-- OR, ORI
abbrev pub or : ℕ → ℕ → ℕ
or a b = bit_or a b

-- XOR, XORI
abbrev pub xor : ℕ → ℕ → ℕ
xor a b = bit_xor a b

-- MUL: the low 32 bits of the product
abbrev pub mul : ℕ → ℕ → ℕ
mul a b = a * b % 2 ^ 32

-- the 64-bit product of two words, each read as a number in its own way: by `signed`, or by `pos`, which reads it as unsigned
abbrev pub product : (ℕ → ℤ) → (ℕ → ℤ) → ℕ → ℕ → ℕ
product left right a b = of_z w64 (left a *ℤ right b)

-- MULH: the upper 32 bits of the product of signed by signed
abbrev pub mulh : ℕ → ℕ → ℕ
mulh a b = product signed signed a b / 2 ^ 32

-- MULHSU: of signed by unsigned
abbrev pub mulhsu : ℕ → ℕ → ℕ
mulhsu a b = product signed pos a b / 2 ^ 32

-- MULHU: of unsigned by unsigned
abbrev pub mulhu : ℕ → ℕ → ℕ
mulhu a b = product pos pos a b / 2 ^ 32

-- DIV: the quotient of signed numbers, cut to its whole part; by 0, all bits set
abbrev pub div : ℕ → ℕ → ℕ
div a b = cond (b == 0) (2 ^ 32 - 1) (unsigned (int_div (signed a) (signed b)))

-- DIVU: by 0, all bits set
abbrev pub divu : ℕ → ℕ → ℕ
divu a b = cond (b == 0) (2 ^ 32 - 1) (a / b)

-- REM: what that quotient leaves; by 0, the dividend
abbrev pub rem : ℕ → ℕ → ℕ
rem a b = cond (b == 0) a (unsigned (int_rem (signed a) (signed b)))

-- REMU: by 0, the dividend
abbrev pub remu : ℕ → ℕ → ℕ
remu a b = cond (b == 0) a (a % b)

-- BEQ: the branch is taken where the value is 1
abbrev pub beq : ℕ → ℕ → ℕ
beq a b = flag (a == b)

-- BNE: likewise
abbrev pub bne : ℕ → ℕ → ℕ
bne a b = flag (not (a == b))

-- BGE: likewise, of signed numbers
abbrev pub bge : ℕ → ℕ → ℕ
bge a b = flag (not (int_lt (signed a) (signed b)))

-- BGEU: likewise, of unsigned ones
abbrev pub bgeu : ℕ → ℕ → ℕ
bgeu a b = flag (not (nat_lt a b))

-- JALR: the even address at or below the sum
abbrev pub target : ℕ → ℕ → ℕ
target base offset = add base offset / 2 * 2
