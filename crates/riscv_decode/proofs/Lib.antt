-- What is shown of tables and of the standing one, and laws that the proofs of several functions cite.
pub mod Numbers
pub mod Scan
pub mod Apart
pub mod Fields
pub mod Listed
