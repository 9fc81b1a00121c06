mod Readings
mod Ending
pub mod Answered
pub mod Staying
