-- What a list of numbers and bytes has.
pub mod Listed
