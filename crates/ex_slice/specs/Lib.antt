pub mod Serving
pub mod Working
pub mod Turning
pub mod Acting
pub mod Slicing
