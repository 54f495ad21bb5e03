pub mod PairLemmas
pub mod RunLemmas
pub mod ViewLemmas
pub mod Kept
pub mod Sealed
pub mod Appended
pub mod Handed
pub mod BookLemmas
