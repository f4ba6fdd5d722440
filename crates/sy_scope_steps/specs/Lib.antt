pub mod Around
pub mod Bodies
pub mod BodiesSeen
pub mod Files
pub mod Grammars
pub mod Seen
pub mod Sizes
pub mod Steps
