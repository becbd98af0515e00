pub mod Handed
pub mod Rows
pub mod Told
