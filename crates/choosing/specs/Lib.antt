-- Counting, the house ranking, and choosing a table.
pub mod Paper
pub mod Helpers
pub mod Laws
