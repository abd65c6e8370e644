mod TablesSteps
pub mod InterleaveLaws
pub mod PathLaws
pub mod CostLaws
pub mod FirstPathLaws
pub mod NearestLaws
pub mod DistanceLaws
pub mod ApartLaws
pub mod ExactSteps
pub mod NearSteps
pub mod NearestBlockLaws
pub mod FourthLaws
pub mod NibbleSteps
pub mod GroupSteps
