pub mod Bits
pub mod Distance
pub mod Divisible
pub mod Numbers
pub mod Least
