-- Codewords where they lie: the symbols of a buffer, read.
pub mod Paper
pub mod Helpers
pub mod Laws
