pub mod Levels
pub mod SoftPaths
pub mod PointCosts
pub mod Softened
