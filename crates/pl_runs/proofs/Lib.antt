pub mod Deciding
pub mod Checked
pub mod Stories
pub mod Logged
pub mod Apart
