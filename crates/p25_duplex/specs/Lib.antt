pub mod DuplexSteps
pub mod DuplexRuns
pub mod ClosingTexts
