pub mod Writable
pub mod Steps
