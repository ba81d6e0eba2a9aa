-- Texts: characters in a table, hits, the directory over the lengths of codewords, the edited text.
pub mod Paper
pub mod Helpers
pub mod Laws
