pub mod Proofs
pub mod Soundness
pub mod States
pub mod Telling
pub mod Ways
