-- To believe: what stands at the C boundary.
pub mod Boundary
pub mod Loader
