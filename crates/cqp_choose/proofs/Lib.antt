pub mod OddsLemmas
pub mod BornLemmas
