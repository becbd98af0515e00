pub mod ChosenByLinks
pub mod ChosenIsOne
pub mod FirstFound
pub mod FirstOfLists
pub mod FirstRules
mod ForwardRides
pub mod GivenTrips
pub mod SameGains
pub mod ScheduleAccepted
pub mod ScheduleAnswers
pub mod SettledThere
mod Tried
pub mod VehicleCounts
pub mod VehicleLaws
pub mod VehicleMakes
pub mod VehicleReads
pub mod PassingOver
pub mod PinnedGives
pub mod PinnedMakes
pub mod PinnedOver
pub mod PinnedReads
