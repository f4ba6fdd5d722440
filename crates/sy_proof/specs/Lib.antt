pub mod Clauses
pub mod Growing
pub mod Lists
pub mod Logs
pub mod Nodes
pub mod Numbers
pub mod Trees
