-- What is proved of the definitions, by subject: it needs no belief, and crates above may cite it.
pub mod Small
pub mod Judge
pub mod Reading
pub mod Judged
