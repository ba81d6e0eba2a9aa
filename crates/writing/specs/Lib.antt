-- Numbers and bytes, written.
pub mod Paper
pub mod Laws
