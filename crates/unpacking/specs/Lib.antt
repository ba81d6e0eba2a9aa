-- Symbols that give characters, many at once.
pub mod Helpers
pub mod Laws
