pub mod CallsLaws
pub mod NeedsLaws
pub mod ReadingsLaws
pub mod TablesLaws
pub mod UnhiddenLaws
