-- What the program answers, line by line beside the paper's part on the program.
pub mod Paper
pub mod Helpers
pub mod Laws
