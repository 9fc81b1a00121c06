pub mod Words
pub mod FlagWords
pub mod Judging
pub mod Joining
mod Listing
