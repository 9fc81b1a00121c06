pub mod Settings
pub mod Keys
pub mod Ports
