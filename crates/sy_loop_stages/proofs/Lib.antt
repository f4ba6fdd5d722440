pub mod Assigned
pub mod Staged
