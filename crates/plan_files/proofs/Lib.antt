pub mod Common
pub mod Applying
pub mod Failing
mod Fronts
pub mod OtherFiles
pub mod Reading
pub mod Writes
