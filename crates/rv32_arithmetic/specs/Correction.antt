-- The sign's part in the upper half of a product.
use Rattle.std.specs.Prelude.{ℕ, ◌^◌, cond, nat_lt}

-- what an operand that is read as signed takes from the upper half of the unsigned product: where it is negative, the other operand
abbrev pub correction : ℕ → ℕ → ℕ
correction operand other = cond (nat_lt operand (2 ^ 31)) 0 other
