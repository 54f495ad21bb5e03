pub mod Bounds
pub mod Spent
