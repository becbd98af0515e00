mod LoadCalls
pub mod LoadMakes
pub mod LoadNames
pub mod LoadReads
mod LoadRows
mod LoadsAccepted
mod SoundLoads
mod Tried
pub mod DemandRows
pub mod SmallLoads
