pub mod Checking
pub mod Clauses
pub mod Posing
pub mod Rechecking
pub mod Spelling
