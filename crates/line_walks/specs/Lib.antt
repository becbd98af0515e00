pub mod GivenCosts
pub mod LineLengths
pub mod LinesSoFar
pub mod PoolCosts
pub mod Pools
