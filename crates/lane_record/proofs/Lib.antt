-- Laws that the proofs of several functions cite, and the theorems on the record.
pub mod TestLaws
pub mod ItemLaws
pub mod LoopLaws
pub mod DecodeLaws
pub mod AnswerLaws
pub mod Theorems
pub mod Runs
pub mod Example
