pub mod PotentialTables
pub mod PotentialFaults
