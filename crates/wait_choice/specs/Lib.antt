pub mod ChoiceStage
pub mod Judged
pub mod PrintedRows
pub mod WaitTexts
