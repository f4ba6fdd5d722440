pub mod Lowest
pub mod Folding
pub mod Accepting
pub mod Refuting
pub mod Judged
pub mod Bounds
pub mod Rejecting
pub mod Sound
