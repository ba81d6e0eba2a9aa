-- What every crate stands on: the limit, the refusals in their order, what an answer says, rows of numbers and their runs.
pub mod Paper
pub mod Helpers
pub mod Laws
