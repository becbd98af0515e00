pub mod ChangeEnds
pub mod OnTrial
pub mod OpenChanges
pub mod Stillness
pub mod Trials
