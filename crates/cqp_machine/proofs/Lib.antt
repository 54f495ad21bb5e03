pub mod SumLemmas
pub mod Teleported
