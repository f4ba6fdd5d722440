pub mod Agreement
pub mod Asking
pub mod Evaluation
pub mod Plain
pub mod Tracing
