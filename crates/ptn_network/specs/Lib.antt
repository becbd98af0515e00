pub mod Ids
pub mod Inputs
pub mod Loads
pub mod Networks
