-- What helpers ask and answer. No promise of an operation speaks of it.
pub mod Masks
pub mod Naming
pub mod Kept
pub mod Following
