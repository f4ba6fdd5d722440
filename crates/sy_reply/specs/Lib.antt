pub mod Ends
pub mod Fitting
pub mod Lines
pub mod Replies
pub mod Statements
pub mod StatementsLines
pub mod Writable
