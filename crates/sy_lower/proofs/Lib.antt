pub mod Lists
pub mod Steps
pub mod Found
pub mod Divided
pub mod Dividing
pub mod Keyed
pub mod Comparing
pub mod Making
