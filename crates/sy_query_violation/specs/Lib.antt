pub mod Violating
