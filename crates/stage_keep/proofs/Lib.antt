mod Blocks
mod BlocksTold
pub mod EntriesApart
pub mod EntriesRead
mod EntryLaws
pub mod Framing
pub mod Honesty
pub mod LastParts
mod Pieces
mod PlacesInLastPart
mod Reading
mod Tried
mod Writing
