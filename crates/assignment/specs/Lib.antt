pub mod Choices
pub mod ClaimablePlaces
pub mod Seekers
