pub mod Polynomial
pub mod LinearSystem
pub mod Matrix
pub mod Key
pub mod Euclid
