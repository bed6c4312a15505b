-- Laws that the answers for the functions cite, and the promise on the bytes that are written.
pub mod Promise
pub mod Laws
