pub mod Circuits
pub mod Models
pub mod Arithmetic
pub mod Bitwise
pub mod Orders
pub mod Keys
