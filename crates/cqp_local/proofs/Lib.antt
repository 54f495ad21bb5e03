pub mod GroupMaps
pub mod KeyLemmas
pub mod LocalLaws
pub mod PlacedLemmas
pub mod StoreLemmas
pub mod WholeFits
pub mod WholeGroups
pub mod WholeLemmas
