pub mod CheckedLists
pub mod LinkRows
pub mod Links
pub mod Places
pub mod Plans
pub mod Potentials
pub mod Slacks
