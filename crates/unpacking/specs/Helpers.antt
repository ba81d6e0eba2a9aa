-- What helpers ask and answer. No promise of an operation speaks of it.
pub mod Gives
pub mod Tasks
