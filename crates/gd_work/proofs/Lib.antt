pub mod Pieces
pub mod Sent
pub mod Taken
pub mod Whole
pub mod Interleaving
