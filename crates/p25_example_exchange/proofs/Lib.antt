pub mod RunSteps
pub mod PrintedLaws
