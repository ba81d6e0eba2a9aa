pub mod Between
pub mod Cut
pub mod Laws
pub mod Moves
pub mod Shifted
pub mod Stored
pub mod Window
pub mod Worked
