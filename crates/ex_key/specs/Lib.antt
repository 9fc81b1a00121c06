pub mod Hashing
pub mod Same
