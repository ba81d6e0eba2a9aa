-- What is proved of the definitions, by subject: it needs no belief, and crates above may cite it.
pub mod Matching
pub mod Named
pub mod Following
pub mod Operations
pub mod Joined
pub mod Kept
