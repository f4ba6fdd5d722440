pub mod Claimed
pub mod Printable
pub mod Proved
pub mod Steps
pub mod Written
