pub mod Marks
pub mod Words
pub mod LineReadings
pub mod Values
pub mod CommaLists
pub mod Octets
