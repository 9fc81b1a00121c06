pub mod Choosing
pub mod Parts
pub mod Whole
pub mod Looking
pub mod Loaded
pub mod Fitted
pub mod Steps
pub mod Taking
