pub mod Values
pub mod Spelling
pub mod Reading
pub mod Faults
pub mod Order
pub mod Hash
pub mod Laws
pub mod Stops
