pub mod Hamming10Tables
pub mod Lsd16Tables
