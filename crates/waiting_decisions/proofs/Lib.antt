pub mod Bounds
pub mod Holding
pub mod JudgedNodes
pub mod Listed
pub mod PathFacts
pub mod Right
mod SearchTells
pub mod TreesOfNodes
pub mod Turns
pub mod Visits
pub mod Walked
