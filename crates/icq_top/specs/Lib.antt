pub mod Steps
pub mod Words
pub mod Text
pub mod Stops
pub mod Judging
pub mod Print
pub mod Outcome
pub mod Work
