-- Laws of the search, of a word's bytes, of the list of written bytes, of a row's bytes and of the loops; `Laws` has those that callers cite.
mod Search
mod Bytes
mod Memory
mod HashTables
mod Seek
mod RowBytes
mod Loops
pub mod Laws
