pub mod Assignments
pub mod GateHalf
pub mod PlaceLemmas
pub mod PlacesKept
pub mod SplitBits
