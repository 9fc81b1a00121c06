pub mod Single
pub mod Scans
pub mod Filters
pub mod Projects
pub mod Limits
pub mod Sorts
