-- Laws of loads and of a fetch's parts; `Laws` has those that callers cite.
mod Loads
pub mod Laws
