-- A sound roll searched by jumps over packed bytes. The hits themselves are said in `texts`, the promise in `roll`.
pub mod Helpers
pub mod Laws
