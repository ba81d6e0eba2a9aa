-- What helpers ask and answer. No promise of an operation speaks of it.
pub mod Words
pub mod Measured
pub mod Replacing
pub mod Replacements
