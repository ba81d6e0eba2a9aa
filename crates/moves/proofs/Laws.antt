-- The laws of specs/Laws that rest on how many rows of fewer continuers there are; crates above may cite them.
pub mod States
pub mod Moves
