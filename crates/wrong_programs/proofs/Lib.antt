-- That none of the wrong programs meets the contracts.
pub mod Right
pub mod Table
pub mod Promise
pub mod Promises
pub mod Possible
