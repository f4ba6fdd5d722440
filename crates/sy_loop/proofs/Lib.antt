pub mod Beginning
pub mod Choosing
pub mod Completing
pub mod Following
pub mod Honest
pub mod JoinFollowing
pub mod Joining
pub mod Least
mod Listed
pub mod Meeting
pub mod Observed
pub mod Planning
pub mod Refuting
pub mod Resting
pub mod Rounding
pub mod Solvable
