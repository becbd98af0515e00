mod ConceptAccepted
mod ConceptRows
mod ConceptWritten
mod EdgesOfTexts
mod FirstRows
mod Judging
pub mod NoConcepts
mod PushedEdges
mod PushedLines
mod Refusals
mod SameCells
mod StageResults
mod Tried
pub mod ConceptMakes
pub mod ConceptNames
pub mod ConceptReads
pub mod FrequenciesBack
pub mod SearchRight
pub mod SoundProblems
pub mod PinnedReads
pub mod PinnedLaws
pub mod PinnedOver
mod FirstKnown
mod Grouped
mod GroupedRows
mod SamePlaces
mod PinnedCalls
mod RowCounts
