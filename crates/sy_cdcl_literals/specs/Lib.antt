pub mod Falsified
pub mod Suiting
