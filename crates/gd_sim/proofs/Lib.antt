pub mod Keeping
pub mod Logged
pub mod Turning
pub mod Sending
pub mod Growing
pub mod Starting
pub mod Ending
pub mod Faulting
mod Steps
mod Running
pub mod KeyLemmas
pub mod Counting
pub mod Feeds
