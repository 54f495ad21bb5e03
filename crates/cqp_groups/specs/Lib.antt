pub mod Groups
pub mod RunLaws
pub mod States
