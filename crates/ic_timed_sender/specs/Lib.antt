pub mod Timed
pub mod Looking
pub mod Emitted
pub mod Standing
pub mod Laws
