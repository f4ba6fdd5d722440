pub mod Lists
pub mod Masks
pub mod Three
pub mod Wrapping
