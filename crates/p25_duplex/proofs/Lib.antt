pub mod KindLaws
pub mod TwoDeliveriesLaws
pub mod RunLaws
pub mod OrderLaws
pub mod CountLaws
pub mod DuplexHistoryLaws
pub mod DuplexListsLaws
