pub mod FactoredPath
pub mod GroupLaws
