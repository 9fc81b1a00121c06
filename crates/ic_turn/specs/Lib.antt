pub mod Entries
pub mod Counting
pub mod Parts
pub mod Passes
pub mod Many
pub mod Views
pub mod Rule
pub mod Steps
