pub mod Adapters
pub mod Asked
pub mod Chains
pub mod Events
pub mod Faults
pub mod Histories
pub mod MemorySource
pub mod Notes
pub mod Octets
pub mod Pairs
pub mod SliceSink
pub mod SteadySource
pub mod Streams
pub mod Tapes
-- laws of impls, with no definition to trust
pub mod PairLaws
pub mod StreamsLaws
pub mod TapeLaws
