pub mod Cases
pub mod Refuting
