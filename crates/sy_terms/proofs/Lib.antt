mod Vectors
mod Equal
mod Same
mod Apart
mod Reading
pub mod PairsApplied
