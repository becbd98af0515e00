pub mod Judged
pub mod RightTimetables
pub mod SearchResults
pub mod TimetableStage
pub mod PinnedTimetables
