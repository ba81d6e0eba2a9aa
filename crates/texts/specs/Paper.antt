-- What a buyer must believe, as the paper says it, in the order to read it.
pub mod Characters
pub mod Hits
pub mod Directory
pub mod Edited
