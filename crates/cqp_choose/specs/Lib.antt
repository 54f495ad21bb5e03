pub mod Chooses
pub mod Odds
pub mod Picks
pub mod Small
pub mod Word
