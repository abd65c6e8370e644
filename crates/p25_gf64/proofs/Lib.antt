pub mod FieldLaws
pub mod PowerLaws
pub mod SymbolLaws
pub mod TableLaws
pub mod ProductSteps
