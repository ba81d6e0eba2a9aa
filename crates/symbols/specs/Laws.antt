-- What is proved of the definitions, by subject: it needs no belief, and crates above may cite it.
pub mod Width
pub mod Sizes
pub mod Rows
pub mod Packing
pub mod Gathered
pub mod Whole
