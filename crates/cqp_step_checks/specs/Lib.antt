pub mod Processes
pub mod Steps
pub mod Walks
