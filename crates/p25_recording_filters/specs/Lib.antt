pub mod Reports
pub mod Recordings
pub mod SoftLevels
pub mod ItemOutputs
pub mod Commands
pub mod Softs
pub mod Decides
