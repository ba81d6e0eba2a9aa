-- What helpers ask and answer. No promise of an operation speaks of it, but for State: `judge`/Paper/Judge is made of `opened` and `stepped`.
pub mod Alphabets
pub mod First
pub mod State
pub mod Answers
