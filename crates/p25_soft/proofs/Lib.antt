pub mod LevelSteps
pub mod PointLaws
pub mod DeviationLaws
pub mod SoftLaws
pub mod NamedSteps
pub mod SoftenedLaws
pub mod HardBitsLaws
pub mod HeardLaws
