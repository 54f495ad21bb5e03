pub mod CountTables
pub mod OrderTables
pub mod Orders
pub mod RedexCounts
pub mod RedexPlaces
pub mod TrailLemmas
pub mod TrailLists
