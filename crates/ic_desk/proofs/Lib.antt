pub mod Owning
pub mod Logging
pub mod Sitting
mod Plans
mod Quiet
