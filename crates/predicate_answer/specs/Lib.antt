-- To believe: what a run answers.
pub mod Refusal
pub mod Texts
pub mod Blank
pub mod Outcome
