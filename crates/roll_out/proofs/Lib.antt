mod Added
mod ChangesAt
mod DayCells
mod DayChanges
mod DayChangesGood
mod DayInWords
mod EndsOfTrips
mod GoesForward
mod GoodRuns
mod GoodTrips
mod Growing
mod ListedEvents
mod Neighbours
mod NotedWays
mod NumberedActivities
mod OneCopy
mod PlacedEvents
mod Rolled
mod RolledTrips
mod RolloutAccepted
mod RolloutCalls
mod RuleRows
mod RunsInTurn
mod SoundPlans
mod SoundTrips
mod Spaced
mod TripsOfDay
mod WaysCounted
mod WholeRuns
pub mod FilesRead
pub mod RolloutMakes
pub mod RolloutReads
