pub mod Numbers
mod Seen
mod Block
mod Sound
