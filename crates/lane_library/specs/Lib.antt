-- To believe: what the program's input stands for, and what the run over it answers and leaves.
pub mod Inputs
pub mod Promise
pub mod Outcome
pub mod Texts
