pub mod Answers
pub mod CommandLine
pub mod Says
pub mod Top
