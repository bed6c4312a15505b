-- What is claimed of DIVU by a power of two: it is a shift, for each of the 32 that a word can be. The proofs stand in proofs/Divisor.
use Rattle.std.specs.Prelude.{◌≡◌, ℕ, zero, suc, ◌^◌, ◌<◌, cond, ◌==◌, None, Option, Some}
use Rattle.rv32_arithmetic.specs.Arithmetic.{srl, divu}

-- the places of a power of two below 2 ^ n: k, where the number is 2 ^ k
unfoldable pub power_below : ℕ → ℕ → Option ℕ
power_below zero x = None
power_below (suc k) x = cond (x == 2 ^ k) (Some k) (power_below k x)

-- .. of one that a word can be: 2 ^ 0 to 2 ^ 31
abbrev pub power_of : ℕ → Option ℕ
power_of x = power_below 32 x

-- each of the 32 is told, with its places, and no other number is
abbrev pub PowersFound : Type 0
PowersFound = ((k : ℕ) → k < 32 → power_of (2 ^ k) ≡ Some k) × ((x k : ℕ) → power_of x ≡ Some k → (k < 32) × (x ≡ 2 ^ k))

-- the quotient by each of them is a shift by its places, whatever the dividend
abbrev pub ShiftDivides : Type 0
ShiftDivides = (a k : ℕ) → k < 32 → srl a k ≡ divu a (2 ^ k)
