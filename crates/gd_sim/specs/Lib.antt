pub mod Feeding
pub mod Run
pub mod Playing
pub mod Stations
pub mod Beginning
pub mod Runs
pub mod Plans
pub mod Tallying
