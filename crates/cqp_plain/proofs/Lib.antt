mod Picked
mod Runs
pub mod Sizes
