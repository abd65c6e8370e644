pub mod Interleave
pub mod Tables
pub mod Trellis
pub mod Nearest
pub mod Costs
pub mod Least
-- laws of impls, with no definition to trust
pub mod TableLaws
