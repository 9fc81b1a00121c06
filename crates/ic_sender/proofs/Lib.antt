pub mod Lists
pub mod Sent
pub mod Carrying
pub mod Emitting
pub mod Passing
mod Going
mod Putting
mod Pairs
mod Hearing
mod Answering
pub mod Dues
pub mod Ticking
pub mod Beginning
pub mod Knowing
mod Writing
mod Packets
pub mod MayWaiting
mod Ending
mod WordLemmas
mod Listed
