pub mod PlainRuns
pub mod Progress
pub mod Replays
pub mod Upcoming
