pub mod RunExamples
pub mod TakenOutcomes
pub mod TypeExamples
