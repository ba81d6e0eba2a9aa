-- What is proved of the definitions: it needs no belief, and crates above may cite it.
pub mod Gives
