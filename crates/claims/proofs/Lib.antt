-- Each claim by its law.
pub mod Held
