pub mod Rightly
pub mod Sorts
pub mod ValueSorts
