-- Base symbols in bytes: where a symbol stands, the row of a buffer, a row packed, the room. Worked has small cases, computed.
pub mod Paper
pub mod Helpers
pub mod Worked
pub mod Laws
