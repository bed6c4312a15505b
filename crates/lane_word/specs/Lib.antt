-- To believe: lane words, which inputs the lanes are for, and that one flag stands for all of a word's.
pub mod Word
pub mod Range
pub mod Flags
-- For the code's proofs: words told by one value, lanes without an input of their own, and words that are a power of two.
pub mod Told
pub mod Spare
pub mod Divisor
pub mod Lanewise
