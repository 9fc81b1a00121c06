mod Room
mod Formed
mod Counting
mod Missing
mod Steps
mod Going
mod Ticking
mod Spending
mod Pausing
mod Looked
pub mod Silence
