-- What is proved of the definitions, by subject: it needs no belief, and crates above may cite it.
pub mod Fitting
pub mod Words
pub mod Measured
pub mod Editing
pub mod Located
pub mod Edited
pub mod Replaced
pub mod Replacing
pub mod Changing
