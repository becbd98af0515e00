pub mod DayActivities
pub mod DayInWords
pub mod DayTrips
pub mod Plans
pub mod RightRollout
pub mod RolloutStage
pub mod TimedRuns
