pub mod Canonical
pub mod Drops
pub mod LinkedPlans
pub mod Residual
pub mod Rounds
pub mod Walks
