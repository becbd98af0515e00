pub mod FaultlessTrees
pub mod ReadLines
pub mod ReadRules
pub mod ReadSteps
pub mod ReadTaken
pub mod ReadTexts
pub mod ReadWhole
pub mod RowsKept
pub mod RowsOfNodes
mod Tried
pub mod WriteInside
pub mod WriteLines
pub mod WriteMultipliers
pub mod WriteRows
pub mod WriteTrees
