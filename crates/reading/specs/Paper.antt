-- What a buyer must believe, as the paper says it.
pub mod Reading
