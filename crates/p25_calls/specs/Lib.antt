pub mod Seen
pub mod Runs
pub mod Calls
pub mod Taking
pub mod CallLaws
pub mod CallTexts
