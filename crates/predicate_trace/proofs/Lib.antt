-- What is proved of a trace's bytes.
mod Entry
pub mod TraceLaws
