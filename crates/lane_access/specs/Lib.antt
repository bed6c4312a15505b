-- Loads and fetches: for proofs.
-- What the code's answers are in the semantics, memory as it sees it, and the core in force:
pub mod Answers
pub mod Seen
pub mod InForce
-- What only private functions are equated with:
pub mod Whole
pub mod Parts
