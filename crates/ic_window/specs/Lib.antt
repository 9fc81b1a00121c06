pub mod Window
pub mod Waiting
pub mod State
pub mod Laws
