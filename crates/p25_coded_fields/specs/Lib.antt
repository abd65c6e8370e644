pub mod Layouts
pub mod Within
pub mod Fixes
pub mod Decided
pub use Rattle.p25_link.specs.Symbols.{symbol_in, symbols_in, symbol_bits}
