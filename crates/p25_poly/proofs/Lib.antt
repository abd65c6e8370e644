pub mod CoefficientLaws
pub mod DivisionLaws
pub mod PolyLaws
pub mod DotLaws
pub mod RowLaws
pub mod SystemSteps
pub mod EuclidSteps
