pub mod Ascending
pub mod Paths
