pub mod Standing
pub mod Mixing
pub mod Sums
pub mod Places
pub mod Finding
