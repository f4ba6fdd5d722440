pub mod Clauses
pub mod Columns
pub mod Judged
pub mod Judging
pub mod Leaves
pub mod Memos
pub mod Telling
pub mod Tellings
