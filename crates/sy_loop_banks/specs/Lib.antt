pub mod BankClauses
pub mod Banks
pub mod Dropping
