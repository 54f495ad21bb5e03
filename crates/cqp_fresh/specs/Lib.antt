pub mod Apart
pub mod Partition
