pub mod Placing
pub mod Subtrees
