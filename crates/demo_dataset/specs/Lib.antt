pub mod Demo
pub mod Grid
pub mod Rows
pub mod Square
