pub mod Stable
pub mod Sorting
pub mod Turning
pub mod Filtering
pub mod Projecting
