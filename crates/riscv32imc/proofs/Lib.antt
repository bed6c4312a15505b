-- The worked examples of expansion, a law for counts over all halfwords, and the claims about hints.
pub mod Examples
pub mod Halfwords
pub mod Hints
