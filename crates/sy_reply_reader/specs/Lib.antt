pub mod Parts
pub mod Signatures
pub mod Slots
pub mod Seen
pub mod Asked
pub mod Ends
pub mod Definitions
pub mod Replies
