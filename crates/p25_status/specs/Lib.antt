pub mod Sync
pub mod Status
pub mod Woven
pub mod Outcomes
pub mod FieldNames
