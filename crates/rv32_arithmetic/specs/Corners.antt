-- The corners of the arithmetic, as one claim: a divisor of 0, the quotient that does not fit, signs, shifts by more than 31 places, and what wraps. The proof stands in proofs/Corners.
use Rattle.std.specs.Prelude.{◌≡◌, ℕ}
use Rattle.rv32_arithmetic.specs.Arithmetic.{add, sub, sra, mul, mulh, mulhsu, mulhu, div, divu, rem, remu}

pub record Corners : Type 0 where
  -- 80000000 by -1
  pub overflow_quotient : div 0x80000000 0xffffffff ≡ 0x80000000
  pub overflow_remainder : rem 0x80000000 0xffffffff ≡ 0
  -- divisor 0
  pub quotient_by_zero : (a : ℕ) → div a 0 ≡ 0xffffffff
  pub remainder_by_zero : (a : ℕ) → rem a 0 ≡ a
  pub unsigned_quotient_by_zero : (a : ℕ) → divu a 0 ≡ 0xffffffff
  pub unsigned_remainder_by_zero : (a : ℕ) → remu a 0 ≡ a
  -- -7 by 2 and 7 by -2: the quotient is -3, the remainder has the dividend's sign
  pub negative_dividend : div 0xfffffff9 2 ≡ 0xfffffffd
  pub negative_divisor : div 7 0xfffffffe ≡ 0xfffffffd
  pub negative_dividend_remainder : rem 0xfffffff9 2 ≡ 0xffffffff
  pub negative_divisor_remainder : rem 7 0xfffffffe ≡ 1
  -- a shift by 33 places is one by 1
  pub shift_by_33 : sra 0x80000000 33 ≡ 0xc0000000
  -- modulo 2 ^ 32
  pub sum_wraps : add 0xffffffff 1 ≡ 0
  pub difference_wraps : sub 0 1 ≡ 0xffffffff
  pub product_wraps : mul 0xffffffff 0xffffffff ≡ 1
  -- all bits set, by itself: 1 of signed by signed, -(2 ^ 32 - 1) of signed by unsigned, (2 ^ 32 - 1) ^ 2 of unsigned by unsigned
  pub signed_by_signed : mulh 0xffffffff 0xffffffff ≡ 0
  pub signed_by_unsigned : mulhsu 0xffffffff 0xffffffff ≡ 0xffffffff
  pub unsigned_by_unsigned : mulhu 0xffffffff 0xffffffff ≡ 0xfffffffe
