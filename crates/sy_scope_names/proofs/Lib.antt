pub mod Earlier
pub mod Listing
pub mod Made
pub mod Named
mod Pooling
