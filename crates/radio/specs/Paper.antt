-- What a buyer must believe, as the paper says it, in the order to read it.
pub mod Matching
pub mod Operations
