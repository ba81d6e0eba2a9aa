pub mod Tight
pub mod Not
