pub mod Growing
pub mod Runs
pub mod Laws
pub mod Worked
