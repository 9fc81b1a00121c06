pub mod Entries
pub mod Living
pub mod Laws
pub mod Serving
pub mod Formed
pub mod Clocks
