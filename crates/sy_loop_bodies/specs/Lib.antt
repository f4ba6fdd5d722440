pub mod Banked
pub mod Clauses
