-- What a buyer must believe, as the paper says it, in the order to read it.
pub mod Ranking
pub mod Choosing
pub mod Operations
