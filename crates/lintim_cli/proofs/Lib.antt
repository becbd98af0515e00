pub mod AllFolders
mod Asked
pub mod Demos
pub mod Telling
