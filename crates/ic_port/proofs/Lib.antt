pub mod Keeping
pub mod Keys
pub mod Taken
pub mod Serving
pub mod Driving
pub mod Tested
