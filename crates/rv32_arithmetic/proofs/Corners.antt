-- The corners of the arithmetic, computed from its definitions. Assumes nothing.
use Rattle.std.proofs.Common.{refl}
use Rattle.rv32_arithmetic.specs.Corners.{Corners}

pub corners : Corners
corners = record {
  overflow_quotient = refl;
  overflow_remainder = refl;
  quotient_by_zero = λ a. refl;
  remainder_by_zero = λ a. refl;
  unsigned_quotient_by_zero = λ a. refl;
  unsigned_remainder_by_zero = λ a. refl;
  negative_dividend = refl;
  negative_divisor = refl;
  negative_dividend_remainder = refl;
  negative_divisor_remainder = refl;
  shift_by_33 = refl;
  sum_wraps = refl;
  difference_wraps = refl;
  product_wraps = refl;
  signed_by_signed = refl;
  signed_by_unsigned = refl;
  unsigned_by_unsigned = refl;
}
