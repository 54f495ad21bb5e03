pub mod Groups
pub mod Least
pub mod Marks
pub mod Numbered
pub mod Places
pub mod Sides
pub mod Stands
