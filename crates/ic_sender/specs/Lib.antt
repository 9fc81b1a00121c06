pub mod Sending
pub mod Calls
pub mod Entries
pub mod Standing
pub mod Views
pub mod Laws
pub mod Listed
