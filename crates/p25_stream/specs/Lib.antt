pub mod Items
pub mod ItemLaws
pub mod Arrivals
pub mod Scan
pub mod Judgements
pub mod Finding
pub mod Repeats
pub mod Written
