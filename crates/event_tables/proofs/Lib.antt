pub mod Common
-- Other crates cite lemmas of CellFacts, CellsBack, Numbering, PlacesKept, RanksRise, SoundFiles,
-- SoundTimes, SoundTrips and WrittenRecords.
pub mod CellFacts
pub mod CellsBack
mod Fitting
pub mod Numbering
mod OwnRows
pub mod PlacesKept
pub mod RanksRise
mod ScheduleRows
pub mod SoundFiles
pub mod SoundTimes
pub mod SoundTrips
mod Tried
mod TriedRuns
mod WholeFiles
pub mod WrittenRecords
