pub mod Alike
pub mod Assignments
pub mod Bodies
pub mod Clauses
pub mod Fitting
