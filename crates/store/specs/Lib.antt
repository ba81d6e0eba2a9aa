-- A text stored: what of it fits, its packed bytes, and what an edit leaves.
pub mod Paper
pub mod Helpers
pub mod Laws
