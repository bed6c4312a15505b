-- Laws that the proofs of several functions cite, and other crates.
pub mod Clash
pub mod Lists
pub mod Tab
pub mod Lanewise
pub mod SpareLaws
pub mod Scan
pub mod Words
pub mod ToldLaws
pub mod Divisor
pub mod OneFlag
