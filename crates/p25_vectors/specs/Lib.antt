pub mod Draws
pub mod Bodies
pub mod Damage
pub mod Samples
