pub mod Spots
pub mod Workers
pub mod Sending
pub mod Fitting
