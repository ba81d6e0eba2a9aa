-- What the promises of the operations come to. `Demands` is page one: the owner's three demands, clause by clause. The rest is what it is proved from. It needs no belief.
pub mod Demands
pub mod Calls
pub mod Orders
pub mod Code
pub mod Fault
pub mod Chosen
pub mod After
pub mod Meaning
pub mod Counted
pub mod Made
pub mod Edits
pub mod Radio
pub mod Frames
