pub mod Logs
pub mod Soundness
pub mod Trees
pub mod TreesSoundness
