pub mod SymbolsLaws
pub mod ReadLaws
pub mod DecidedLaws
pub mod WithinLaws
pub mod FieldLaws
pub mod CodesLaws
pub mod FixesLaws
