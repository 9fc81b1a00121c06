pub mod Sessions
pub mod Answers
pub mod Playing
pub mod Laws
