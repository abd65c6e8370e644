pub mod Calls
pub mod Needs
pub mod Readings
pub mod Tables
pub mod Unhidden
