pub mod Ends
pub mod Lawful
pub mod Odds
pub mod PartCounts
pub mod Scaled
pub mod ToldLists
