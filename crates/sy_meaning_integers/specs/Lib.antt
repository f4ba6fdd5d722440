pub mod Found
pub mod Lia
