pub mod Entries
pub mod Fitting
pub mod Measuring
pub mod Read
pub mod Walking
