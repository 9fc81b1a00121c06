pub mod Copies
pub mod Fates
pub mod Wires
pub mod Inside
pub mod Calls
pub mod Law
pub mod Laws
