pub mod Table
pub mod Laws
pub mod Codes
pub mod Ends
pub mod Slots
pub mod Kept
pub mod PlaceLaws
