mod Along
mod Candidates
mod Crossings
mod DrivenEvents
mod EanAccepted
mod EanCalls
mod EanCells
pub mod EanMakes
pub mod EanNames
pub mod EanReads
mod InTurn
mod Joined
mod KeepsRules
mod LineEvents
mod LinesInTurn
mod MadeActivities
mod OneWay
mod PlainActivities
mod PlainEvents
mod ReadAgain
mod RunsWhole
mod Served
mod StopsOfRuns
mod Timely
mod Tried
