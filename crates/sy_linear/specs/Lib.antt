pub mod Exact
pub mod Combining
pub mod Judging
pub mod Unsatisfied
pub mod Accepted
