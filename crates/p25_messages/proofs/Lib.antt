pub mod MessageListLaws
mod PartsLaws
