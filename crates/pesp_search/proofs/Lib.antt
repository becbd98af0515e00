mod JudgedTimes
mod PinnedResults
mod RowsOfTimes
mod SearchedTimes
mod StageResults
mod TimesAccepted
mod Tried
pub mod TimetableEnds
pub mod TimetableMakes
pub mod TimetableReads
pub mod PinnedReads
pub mod PinnedLaws
