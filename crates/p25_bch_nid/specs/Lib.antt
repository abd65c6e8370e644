pub mod Duids
pub mod Nid
pub mod Bch63
pub mod Bch63Readings
pub mod NidReading
pub mod NidWord
-- laws of impls, with no definition to trust
pub mod Bch63FormLaws
pub mod Bch63SymbolLaws
pub mod Bch63Laws
