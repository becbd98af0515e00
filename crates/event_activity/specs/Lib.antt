pub mod Activities
pub mod ActivitiesOfRuns
pub mod EanStage
pub mod EventsOfRuns
pub mod Fitting
pub mod NextEvents
pub mod RightEan
pub mod Runs
