pub mod Signals
pub mod Costs
pub mod Kinds
