mod CostCalls
pub mod CostMakes
pub mod CostNames
pub mod CostReads
mod CostRows
mod CostsAccepted
mod Tried
