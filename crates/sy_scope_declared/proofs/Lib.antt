pub mod Names
pub mod Alike
