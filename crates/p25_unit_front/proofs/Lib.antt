pub mod FrontLaws
pub mod FrontSteps
