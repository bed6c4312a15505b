-- What is proved of the actions of operations.
pub mod Sources
pub mod Targets
