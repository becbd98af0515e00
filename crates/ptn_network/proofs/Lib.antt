pub mod EdgeIds
pub mod LoadRows
pub mod NamedFaults
mod Rows
pub mod Sound
mod Texts
