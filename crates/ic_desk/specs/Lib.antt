pub mod Own
pub mod Sitting
pub mod Laws
