pub mod Values
pub mod Script
pub mod LongScript
pub mod DuplexLines
pub mod StepTexts
pub mod LongTexts
-- laws of impls, with no definition to trust
pub mod ScriptReadLaws
pub mod LongReadLaws
pub mod DuplexReadLaws
