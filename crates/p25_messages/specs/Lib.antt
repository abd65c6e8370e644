pub mod MessageList
pub mod LongMessages
pub mod AnswerSteps
