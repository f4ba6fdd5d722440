pub mod Traced
pub mod Items
pub mod Places
pub mod Points
pub mod Saying
pub mod Tuples
