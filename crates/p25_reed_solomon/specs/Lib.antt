pub mod Words
pub mod Errors
pub mod Locator
pub mod Generator
pub mod RsReadings
pub mod Encoding
pub mod BitValues
-- laws of impls, with no definition to trust
pub mod ValueLaws
pub mod ElementLaws
pub mod DistanceLaws
pub mod WordLaws
