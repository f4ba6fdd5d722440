pub mod Chains
pub mod Constants
pub mod Greatest
pub mod Marking
pub mod Tables
