-- To believe: what each operation does.
pub mod Meaning
-- For the code's proofs: what an action reads.
pub mod Reading
