-- What is proved of the definitions, by subject: it needs no belief, and crates above may cite it.
pub mod Split
pub mod Given
pub mod Answer
pub mod Answering
pub mod Written
