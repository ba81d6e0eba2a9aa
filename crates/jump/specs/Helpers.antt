-- What helpers ask and answer. No promise of an operation speaks of it.
pub mod Counting
pub mod Hits
pub mod Windows
