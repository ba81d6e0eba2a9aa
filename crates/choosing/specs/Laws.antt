-- What is proved of the definitions, by subject: it needs no belief, and crates above may cite it.
pub mod Ranking
pub mod Choosing
pub mod Counting
pub mod Raised
pub mod Accepting
pub mod Operations
