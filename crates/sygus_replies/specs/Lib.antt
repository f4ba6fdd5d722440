pub mod Replies
pub mod Texts
pub mod Answerable
pub mod Answered
