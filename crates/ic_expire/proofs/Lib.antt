pub mod Order
pub mod Lists
pub mod Keeping
pub mod Holding
