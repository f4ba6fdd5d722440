pub mod Fillings
pub mod ByPoint
pub mod Pieces
pub mod Weights
pub mod Forms
pub mod Paired
