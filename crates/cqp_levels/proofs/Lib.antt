pub mod KeptFactors
pub mod LevelEvents
pub mod LevelSums
pub mod SplitFactors
pub mod SplitKept
pub mod SplitNorms
pub mod WholeLevels
