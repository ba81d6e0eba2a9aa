-- What a buyer must believe, as the paper says it, in the order to read it.
pub mod Limit
pub mod Refusals
pub mod Answers
pub mod Rows
pub mod Runs
