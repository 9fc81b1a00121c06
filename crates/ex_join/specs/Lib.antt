pub mod Tables
pub mod Matches
pub mod Joins
