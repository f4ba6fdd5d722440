mod Folds
mod Ordered
mod Single
