pub mod Items
pub mod Views
pub mod Falls
pub mod Lexicon
