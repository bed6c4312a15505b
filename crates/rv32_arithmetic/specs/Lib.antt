-- To believe: what each operation computes: what the functions of this crate are equated with.
pub mod Bits
pub mod Arithmetic
pub mod Value
pub mod Corners
pub mod Halves
pub mod Divisor
-- For the code's proofs:
pub mod Correction
