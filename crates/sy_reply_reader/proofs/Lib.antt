pub mod Readings
pub mod Parting
pub mod Leading
pub mod Filled
pub mod Fitting
