pub mod Words
pub mod Letters
pub mod Binary
pub mod Readings
pub mod Erasures
pub mod ErasedReadings
pub mod WrongBits
pub mod LeastCost
-- laws of impls, with no definition to trust
pub mod CodeLaws
