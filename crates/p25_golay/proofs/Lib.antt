pub mod Golay18Steps
pub mod Golay24Tables
