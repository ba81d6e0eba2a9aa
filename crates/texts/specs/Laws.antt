-- What is proved of the definitions, by subject: it needs no belief, and crates above may cite it.
pub mod Characters
pub mod Hits
pub mod Finding
pub mod Patterns
pub mod Directory
pub mod Mended
pub mod Edited
