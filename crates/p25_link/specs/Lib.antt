pub mod Symbols
pub mod Words
pub mod Kinds
