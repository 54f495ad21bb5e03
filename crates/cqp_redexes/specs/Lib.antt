pub mod Evaluation
pub mod Trails
