pub mod Judging
pub mod Claimed
pub mod Ends
