pub mod Linear
pub mod Flags
