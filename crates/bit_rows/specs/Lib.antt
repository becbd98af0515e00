pub mod Bits
pub mod Markings
