pub mod Beginning
pub mod Summing
