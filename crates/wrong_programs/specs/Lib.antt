-- To believe: seven wrong programs (document 01, Conditions of acceptance), and that none of them meets the contracts.
pub mod Inputs
pub mod Behaviours
pub mod Refuted
