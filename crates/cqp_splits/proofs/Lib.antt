pub mod SplitEvent
pub mod SplitProducts
pub mod SplitReads
pub mod SplitStands
pub mod SplitSums
