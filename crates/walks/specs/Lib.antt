pub mod Frontier
pub mod Labels
pub mod Networks
pub mod Paths
pub mod RisingIds
pub mod StopEdges
pub mod Walks
