pub mod Trees
pub mod Sizes
pub mod Columns
pub mod Places
pub mod Loci
pub mod Orders
pub mod Partials
pub mod Within
