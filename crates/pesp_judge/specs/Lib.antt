pub mod Weighted
pub mod Cycles
pub mod Leaves
pub mod Regions
pub mod Trees
