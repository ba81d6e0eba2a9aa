-- What is proved of the definitions, by subject: it needs no belief, and crates above may cite it.
pub mod Counting
pub mod Hits
pub mod Sought
pub mod Table
pub mod Windows
