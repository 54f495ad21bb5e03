pub mod Fresh
pub mod Groups
pub mod NewLaw
pub mod Partition
pub mod SoundStores
pub mod Splits
