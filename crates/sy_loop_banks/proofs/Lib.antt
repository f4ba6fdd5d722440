pub mod Building
pub mod Carrying
mod Losing
