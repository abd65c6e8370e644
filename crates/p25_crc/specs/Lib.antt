pub mod Checks
pub mod Values
pub mod Words
pub mod Remainders
