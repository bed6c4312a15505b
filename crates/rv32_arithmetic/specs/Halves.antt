-- What is claimed of the halves of a product (the manual's M chapter: MULH, MULHSU and MULHU perform the multiplication of MUL). The proof stands in proofs/Halves.
use Rattle.std.specs.Prelude.{◌≡◌, ℕ, ◌%◌, ◌^◌, ◌<◌, pos}
use Rattle.rv32_arithmetic.specs.Arithmetic.{signed, product, mul}

-- MUL has the lower 32 bits of the product of two words, whichever way they are read
abbrev pub LowerHalf : Type 0
LowerHalf =
    (a b : ℕ) → a < 2 ^ 32 → b < 2 ^ 32
    → (product signed signed a b % 2 ^ 32 ≡ mul a b) × (product signed pos a b % 2 ^ 32 ≡ mul a b) × (product pos pos a b % 2 ^ 32 ≡ mul a b)
