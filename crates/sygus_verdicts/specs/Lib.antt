pub mod Clauses
pub mod Found
pub mod Judged
pub mod Lines
pub mod Proofs
pub mod Verdicts
