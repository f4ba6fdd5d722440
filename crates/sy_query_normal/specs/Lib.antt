pub mod Truths
pub mod Unordered
