pub mod Finding
pub mod Searched
pub mod Stages
