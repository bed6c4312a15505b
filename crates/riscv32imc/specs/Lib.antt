-- To believe: the limits of memory, the instruction formats, and what a halfword expands to. Hints and examples are claims.
pub mod Constants
pub mod Formats
pub mod Expansion
pub mod Hints
pub mod Examples
