pub mod SymbolsLaws
pub mod WordsLaws
pub mod KindsLaws
pub mod SymbolNumbersLaws
