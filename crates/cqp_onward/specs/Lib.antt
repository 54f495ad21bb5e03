pub mod Effects
pub mod Forgetting
pub mod Leads
pub mod Sharing
pub mod Spreads
