-- Laws of numbers and rows as bytes, and of stores one after another, that the proofs of this crate and of others cite.
pub mod NumberLaws
pub mod SetLaws
pub mod PackLaws
mod Parts
