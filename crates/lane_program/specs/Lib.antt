-- To believe: what the program writes of its input.
pub mod Program
pub mod Example
