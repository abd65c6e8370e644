pub mod Joining
pub mod LongState
pub mod LongSteps
pub mod LongRuns
pub mod Inside
