pub mod Answers
pub mod Clauses
pub mod Known
pub mod Rests
pub mod Traces
