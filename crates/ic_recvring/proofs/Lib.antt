pub mod Among
pub mod Order
pub mod Runs
pub mod Stored
pub mod Back
mod Stretch
mod Slots
mod Sound
