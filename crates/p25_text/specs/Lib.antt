pub mod Names
pub mod Values
pub mod Packets
pub mod Voices
pub mod Grammar
pub mod ItemTexts
-- laws of impls, with no definition to trust
pub mod UnitReadLaws
