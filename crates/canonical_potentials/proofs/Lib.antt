pub mod Deeper
pub mod Loops
pub mod PassedRows
pub mod Rounds
pub mod Settled
pub mod Shallow
pub mod Steps
pub mod Walking
