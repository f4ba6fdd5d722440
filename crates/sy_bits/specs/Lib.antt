pub mod Proofs
pub mod Soundness
pub use Rattle.sy_bits_circuit.specs.Clauses
