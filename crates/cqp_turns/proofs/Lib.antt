pub mod EnvLemmas
pub mod HTurns
pub mod PrefixStands
pub mod PrefixTurns
pub mod RedexSearch
pub mod RedexStands
pub mod TurnLemmas
pub mod TurnsTold
