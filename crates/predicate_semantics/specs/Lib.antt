-- To believe: what both runs are, and what one promises of the other.
pub mod Choice
pub mod Program
pub mod State
pub mod Scalar
pub mod Tested
pub mod Memory
pub mod Lane
pub mod Standing
pub mod Call
pub mod Outcome
pub mod Guarantee
pub mod Cases
pub mod Bound
pub mod Lent
pub mod Order
pub mod Hints
pub mod RecordRules
-- For proofs: what every step keeps, which the loop's cite.
pub mod Kept
