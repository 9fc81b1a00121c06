mod Numbers
pub mod Shown
mod Moving
mod Came
pub mod Taken
pub mod Others
mod Made
