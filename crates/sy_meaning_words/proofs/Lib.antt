mod Folds
mod Lists
mod Numbers
mod Paired
mod Ranges
mod Shapes
