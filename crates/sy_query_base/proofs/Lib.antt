pub mod Lists
pub mod Solved
pub mod Unfolding
pub mod Violations
