pub mod Folds
pub mod Lists
pub mod Pairs
pub mod Terms
pub mod Truths
pub mod Twice
pub mod Vectors
