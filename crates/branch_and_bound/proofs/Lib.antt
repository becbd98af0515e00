pub mod Turns
pub mod Visited
