pub mod Turns
pub mod Sending
pub mod Cutting
pub mod Taking
pub mod Laws
