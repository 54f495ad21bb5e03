pub mod Calls
pub mod Causes
pub mod Feed
pub mod ReadEnd
pub mod Taken
pub mod Tray
