pub mod CommandWords
pub mod FormWords
pub mod Reports
pub mod Statuses
