pub mod Checked
pub mod FaultlessTables
mod Late
mod Tables
pub mod TablesBack
mod Tried
pub mod CheapestPlans
