pub mod Models
pub mod Places
pub mod Planning
pub mod Rules
pub mod Searches
pub mod Verdicts
