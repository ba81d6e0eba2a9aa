-- The stopper code: codewords and ranks, a table, reading, and the two operations of the code alone.
pub mod Paper
pub mod Helpers
pub mod Laws
