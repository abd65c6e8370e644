pub mod Talks
pub mod Printed
