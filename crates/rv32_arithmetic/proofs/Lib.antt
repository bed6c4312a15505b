-- Laws that the proofs of several functions cite, and the corner cases of the arithmetic.
pub mod Extension
pub mod Divisor
pub mod Halves
pub mod Signed
pub mod Bytes
pub mod Corners
