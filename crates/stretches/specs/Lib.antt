-- A stretch of a roll that comes in, read at once.
pub mod Helpers
pub mod Laws
