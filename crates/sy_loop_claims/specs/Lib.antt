pub mod Clauses
pub mod Least
