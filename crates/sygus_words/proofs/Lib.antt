mod Meaning
pub mod Readings
