-- What is proved of the definitions, by subject: it needs no belief, and crates above may cite it.
pub mod Reading
pub mod Codewords
pub mod Passed
