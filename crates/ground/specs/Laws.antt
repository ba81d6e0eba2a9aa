-- What is proved of the definitions, by subject: it needs no belief, and crates above may cite it.
pub mod Limit
pub mod Tests
pub mod Refusals
pub mod Answers
pub mod Rows
pub mod Runs
