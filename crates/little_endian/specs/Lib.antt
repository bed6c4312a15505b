-- To believe: little-endian numbers: one of any number of bytes, and rows of them.
pub mod Number
pub mod Pack
pub mod Lent
