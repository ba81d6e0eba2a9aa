-- The packed roll: the refusals of each operation and its promise.
pub mod Paper
pub mod Helpers
pub mod Laws
