pub mod Falsified
pub mod Literals
