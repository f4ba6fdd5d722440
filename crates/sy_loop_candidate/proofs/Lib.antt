pub mod Asking
pub mod Assignments
pub mod Calls
pub mod Ending
pub mod Going
pub mod Places
pub mod Reaching
mod Rows
pub mod Telling
pub mod Told
pub mod Untold
