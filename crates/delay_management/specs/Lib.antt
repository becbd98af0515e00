pub mod DayLateness
pub mod DispositionStage
pub mod InputProblems
pub mod Judged
pub mod RightDispositions
pub mod WaitSettings
