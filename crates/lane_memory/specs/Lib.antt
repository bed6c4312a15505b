-- Written bytes in lent rows.
-- To believe, since a run's contract cites it:
pub mod LentRows
-- For proofs. What the functions here are equated with:
pub mod Search
pub mod Rows
-- What the laws say of rows and memory:
pub mod Holds
