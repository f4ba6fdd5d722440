pub mod Candidates
pub mod Filling
pub mod Members
pub mod Numbering
pub mod Parted
pub mod Problems
pub mod Reading
pub mod Widening
