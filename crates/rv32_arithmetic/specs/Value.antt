-- The definition of each operation of two values.
use Rattle.std.specs.Prelude.{ℕ}
use Rattle.rv32_arithmetic.specs.declared.Binary.{Binary}
use Rattle.rv32_arithmetic.specs.declared.Binary.TheVariants.{Add, Sub, Sll, Slt, Sltu, Xor, Srl, Sra, Or, And, Mul, Mulh, Mulhsu, Mulhu, Div, Divu, Rem, Remu, Eq, Ne, Ge, Geu, Target, SignExtend, Byte, Join}
use Rattle.rv32_arithmetic.specs.Arithmetic.{add, sub, sll, srl, sra, slt, sltu, and, or, xor, mul, mulh, mulhsu, mulhu, div, divu, rem, remu, beq, bne, bge, bgeu, target}
use Rattle.rv32_arithmetic.specs.Bits.{sign_extend, byte_of, join}

-- what an operation gives of two values
abbrev pub value_of : Binary → ℕ → ℕ → ℕ
value_of Add = add
value_of Sub = sub
value_of Sll = sll
value_of Slt = slt
value_of Sltu = sltu
value_of Xor = xor
value_of Srl = srl
value_of Sra = sra
value_of Or = or
value_of And = and
value_of Mul = mul
value_of Mulh = mulh
value_of Mulhsu = mulhsu
value_of Mulhu = mulhu
value_of Div = div
value_of Divu = divu
value_of Rem = rem
value_of Remu = remu
value_of Eq = beq
value_of Ne = bne
value_of Ge = bge
value_of Geu = bgeu
value_of Target = target
value_of SignExtend = sign_extend
value_of Byte = byte_of
value_of Join = join
