pub mod UnitsLaws
pub mod ImagePlacesLaws
pub mod NeedsLaws
pub mod KindsLaws
pub mod ReadingsLaws
pub mod FailuresLaws
pub mod FixesLaws
pub mod ItemsLaws
pub mod WithinRadiusLaws
pub mod WholeLaws
pub mod TerminatorsLaws
pub mod BegunLaws
pub mod UnitPlaceLaws
pub mod ItemSteps
pub mod PacketNeedLaws
mod OutcomeLaws
pub mod PacketItemLaws
