pub mod Back
pub mod Ends
pub mod Growth
pub mod Learning
pub mod Levels
pub mod Places
pub mod Push
pub mod Storing
pub mod Values
mod Bound
mod Pigeons
pub mod Inspect
pub mod Judging
pub mod Listing
pub mod Guards
pub mod Visiting
pub mod Shorter
pub mod Attaching
pub mod States
pub mod Courses
