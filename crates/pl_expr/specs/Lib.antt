pub mod Truths
pub mod Comparing
pub mod Holding
pub mod Entries
pub mod Typing
pub mod Seeing
pub mod Walking
