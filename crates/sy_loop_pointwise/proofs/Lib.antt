mod Asked
mod Calls
mod Constraints
mod Kept
mod Keys
mod Placing
mod RestsLaws
mod Tables
mod Values
pub mod Distinct
pub mod Lists
pub mod Numbered
pub mod RestsAsked
pub mod Shaped
