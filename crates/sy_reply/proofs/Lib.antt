pub mod Fitting
pub mod Members
pub mod Written
