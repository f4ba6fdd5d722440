pub mod Answerable
pub mod Found
pub mod Jobs
