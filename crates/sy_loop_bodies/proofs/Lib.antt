pub mod Copied
pub mod Fitting
pub mod One
pub mod Small
pub mod Verdicts
