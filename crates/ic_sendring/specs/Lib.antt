pub mod Ring
pub mod Views
pub mod Room
