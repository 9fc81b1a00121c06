pub mod Calls
pub mod Grouped
pub mod Parts
pub mod Aggs
pub mod Inside
