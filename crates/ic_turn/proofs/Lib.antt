mod Lists
mod Sums
pub mod PartLemmas
pub mod Keeps
pub mod PassLemmas
pub mod Crosses
pub mod Manies
pub mod Trying
pub mod CounterCrosses
