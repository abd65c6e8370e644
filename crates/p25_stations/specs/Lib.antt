pub mod Air
pub mod WorldState
pub mod SessionTexts
pub mod Steps
pub mod Runs
