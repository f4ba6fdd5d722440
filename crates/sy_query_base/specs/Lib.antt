pub mod Answers
pub mod Asked
pub mod Budgets
pub mod Placed
pub mod Queries
pub mod Solutions
pub mod Weights
