pub mod Divisors
pub mod Codes
pub mod Kept
pub mod Stored
