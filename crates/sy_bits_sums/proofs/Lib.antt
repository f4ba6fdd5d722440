pub mod Agreeing
pub mod Adding
