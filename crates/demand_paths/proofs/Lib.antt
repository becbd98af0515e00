pub mod FarStops
pub mod Handing
pub mod WantedLists
pub mod WantedSums
pub mod KnownOnes
