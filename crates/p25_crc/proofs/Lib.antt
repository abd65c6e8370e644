pub mod RegisterLaws
pub mod ChecksLaws
pub mod RemaindersLaws
pub mod ApartSteps
pub mod ApartLaws
