pub mod Laws
pub mod TerminalPaths
pub mod Terminals
