pub mod Receiving
pub mod Entries
pub mod Standing
