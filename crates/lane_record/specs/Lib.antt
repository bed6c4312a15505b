-- To believe: the record: its bytes, its rules, and what its writer and its reader answer.
pub mod Format
pub mod Rules
pub mod Decode
pub mod Answers
pub mod Texts
pub mod RoundTrip
pub mod Runs
pub mod Cases
