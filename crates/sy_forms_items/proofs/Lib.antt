pub mod Conversions
pub mod LetNames
pub mod Literals
pub mod Lookups
pub mod Measuring
pub mod Readings
pub mod Rests
