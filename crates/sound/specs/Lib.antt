-- A roll in its buffer: a text's symbols, a roll's reading and its text, when it is sound, its directory.
pub mod Paper
pub mod Helpers
pub mod Laws
