pub mod Noding
pub mod Calls
pub mod Telling
