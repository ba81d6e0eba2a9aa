-- What is proved of the definitions, by subject: it needs no belief, and crates above may cite it.
pub mod Texts
pub mod Starts
pub mod Sound
pub mod Ends
pub mod Stops
pub mod Holding
pub mod Directory
pub mod Lengths
