pub mod Cases
pub mod Columns
pub mod CommonColumns
mod FullRows
pub mod MarkWords
pub mod Places
pub mod RowBits
pub mod WordBits
