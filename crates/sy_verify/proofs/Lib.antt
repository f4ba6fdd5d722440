pub mod Judged
pub mod Outside
