-- Laws that the answers for the functions cite.
pub mod Laws
pub mod Example
