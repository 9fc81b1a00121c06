pub mod Lists
pub mod Order
pub mod Queues
pub mod Places
pub mod Receiving
pub mod Entries
pub mod Lawful
pub mod Keeping
