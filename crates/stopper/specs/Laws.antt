-- What is proved of the definitions, by subject: it needs no belief, and crates above may cite it.
pub mod Code
pub mod Reading
pub mod Table
pub mod Characters
pub mod State
pub mod Seen
pub mod Operations
pub mod Accepting
