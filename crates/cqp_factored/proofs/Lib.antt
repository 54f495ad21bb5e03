pub mod GroupLimits
pub mod GroupRuns
pub mod LevelRuns
pub mod RunHalf
pub mod RunStands
pub mod ShownPaths
