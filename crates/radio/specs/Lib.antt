-- A roll searched while it comes in.
pub mod Paper
pub mod Helpers
pub mod Laws
