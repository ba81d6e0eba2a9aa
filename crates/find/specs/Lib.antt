-- A sound roll searched by symbols. The hits themselves are said in `texts`.
pub mod Helpers
pub mod Laws
