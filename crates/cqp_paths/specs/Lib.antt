pub mod Examples
pub mod Follows
pub mod Invariant
pub mod Made
pub mod Runs
pub mod Safe
pub mod Script
