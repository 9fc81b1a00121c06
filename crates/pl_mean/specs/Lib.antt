pub mod Merging
pub mod Parts
pub mod Outputs
pub mod Logical
pub mod Answers
pub mod Worked
