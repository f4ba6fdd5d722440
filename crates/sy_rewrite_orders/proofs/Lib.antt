pub mod Alike
pub mod Meanings
pub mod Numbers
pub mod Operations
pub mod Replaced
pub mod TermsLaws
