-- To believe: the 32-bit words of the instruction set: what the decoder is equated with.
pub mod Operands
pub mod Listing
pub mod Rows
pub mod Decode
pub mod Statements
