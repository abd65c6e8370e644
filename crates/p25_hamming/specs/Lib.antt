pub mod Hamming10
pub mod Hamming10Laws
pub mod Lsd16
pub mod Lsd16Laws
