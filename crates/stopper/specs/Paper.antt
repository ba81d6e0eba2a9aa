-- What a buyer must believe, as the paper says it, in the order to read it.
pub mod Code
pub mod Table
pub mod Reading
pub mod Operations
