pub mod Network
pub mod Inside
pub mod History
pub mod Laws
