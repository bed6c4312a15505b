-- To believe: the list of claims.
pub mod Claims
