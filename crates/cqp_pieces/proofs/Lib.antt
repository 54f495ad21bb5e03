pub mod AgreeingPlaces
pub mod Indices
pub mod Ranges
pub mod SplitPieces
pub mod SplitTests
