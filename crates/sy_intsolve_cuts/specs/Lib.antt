pub mod Budgets
pub mod Cuts
pub mod Growing
pub mod Points
pub mod Steps
pub mod Stored
