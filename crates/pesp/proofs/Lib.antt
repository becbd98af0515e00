mod AnyBelow
mod Changes
mod Classed
mod Closing
mod Crowded
mod EmptySets
mod EndsRight
mod Entries
mod Families
pub mod FirstBroken
mod FirstMarks
mod FlagBits
mod FoundRight
mod GreatestSets
pub mod Keeping
mod KeptBits
pub mod LeastTensions
mod Linked
mod ListedTimes
pub mod ListingRight
mod MarkBits
mod MarkCounts
mod NextSets
mod NextTimes
mod OneWord
mod Partners
mod Pruned
mod ReducedSets
mod Revised
mod RoundsKeep
mod ShortListings
mod Sound
mod ShrinkingSets
pub mod Slack
mod Sweeping
mod Ties
mod TurnedTimes
mod Turns
mod Unrolled
mod Visiting
mod Waiting
mod WindowSums
mod WordTurns
