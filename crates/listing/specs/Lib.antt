-- what the lines are
pub mod Listing
