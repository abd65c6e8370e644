pub mod LevelCosts
pub mod DecidedUnits
pub mod DecidedRecordings
pub mod DecidedStretches
pub mod DecidedFollowing
pub mod DecidedTaking
