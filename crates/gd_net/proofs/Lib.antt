pub mod Order
pub mod Queues
pub mod Calls
pub mod Runs
