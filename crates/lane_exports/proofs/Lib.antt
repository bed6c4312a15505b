-- Laws that the answers for the functions cite, and what holds of the pair that reads and writes records.
pub mod WordLaws
pub mod Boundary
pub mod Loader
