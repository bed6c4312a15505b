-- To believe: the bytes of a trace.
pub mod Trace
