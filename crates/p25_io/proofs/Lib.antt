pub mod OctetsLaws
pub mod Walks
pub mod StreamsSteps
