pub mod Often
pub mod Tallies
pub mod Pools
pub mod Parts
pub mod Rooms
pub mod Apart
pub mod Lent
