-- The laws that an edit of the definitions of Paper/Code falls at.
pub mod Code
pub mod Reading
