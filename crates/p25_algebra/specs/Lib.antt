pub mod Sums
pub mod Series
