pub mod Branchings
pub mod Listings
pub mod Right
pub mod Searches
pub mod Trees
