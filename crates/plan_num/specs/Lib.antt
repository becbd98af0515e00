pub mod Number
pub mod Print
pub mod Terminals
pub mod Written
