-- The laws of specs/Laws that rest on where a symbol stands in its byte; crates above may cite them.
pub mod Packing
pub mod Gathered
